-- The allocation of a plant's net hub energy to its units: 01, Allocation, sentence by sentence. Places 0 to 7 stand for units 1 to 8,
-- any of which the plant may have; outside the plant a place counts 0, whatever the values there are.
use Rattle.std.specs.Prelude.{◌≡◌, refl, true, cond, List, ℕ, ◌+◌, ◌-◌, ◌≤◌, eqb, get_or}
use Rattle.finite.specs.Finite.{sum, tabulate}
use Rattle.energy.specs.declared.GrossKwh.{GrossKwh}
use Rattle.energy.specs.declared.NetKwh.{NetKwh}
use Rattle.energy.specs.declared.HubGrains.{HubGrains}
use Rattle.energy.specs.Energy.{hub_of}
use Rattle.units.specs.Units.{member_at}
use Rattle.offer.specs.Offer.{past_offer, offer_holds}
use Rattle.offer.specs.Modified.{price_at}
use Rattle.apportion.specs.Shares.{shares}
use Rattle.allocation.specs.declared.PlantUnit.{PlantUnit}
use Rattle.allocation.specs.declared.Plant.{Plant}
use Rattle.allocation.specs.Fill.{grains_at, fill, Cheapest}

-- max(a − b, 0): the difference of two natural numbers stops at 0
abbrev pub above : NetKwh → NetKwh → NetKwh
above a b = record { 0 = a.0 - b.0 }

-- N = max(net − reverse, 0)
unfoldable pub net_energy : NetKwh → NetKwh → NetKwh
net_energy net reverse = above net reverse

-- The plant's net hub energy is H = N × (10,000 − L)
unfoldable pub plant_energy : NetKwh → NetKwh → ℕ → HubGrains
plant_energy net reverse loss = hub_of (net_energy net reverse) loss

-- what an index past the end of an array of units reads
abbrev pub past_unit : PlantUnit
past_unit = record { real = record { 0 = 0 }; nominal = record { 0 = 0 }; commitment = record { 0 = 0 }; offer = past_offer }

abbrev pub unit_at : Plant → ℕ → PlantUnit
unit_at plant k = get_or plant.unit k past_unit

-- a value of the unit at place k, 0 outside the plant
abbrev pub net_at : Plant → ℕ → NetKwh
net_at plant k = cond (member_at plant.units k) (unit_at plant k).real (record { 0 = 0 })

abbrev pub gross_at : Plant → ℕ → GrossKwh
gross_at plant k = cond (member_at plant.units k) (unit_at plant k).nominal (record { 0 = 0 })

-- R is the sum of `real`
unfoldable pub real_sum : Plant → NetKwh
real_sum plant = record { 0 = sum 8 (λ k. (net_at plant k).0) }

-- X = max(N − R, 0) × (10,000 − L)
unfoldable pub excess : NetKwh → NetKwh → Plant → HubGrains
excess net reverse plant = hub_of (above (net_energy net reverse) (real_sum plant)) plant.loss

-- what a unit's share of X goes by: `real`, or `nominal` where R = 0
unfoldable pub weight_at : Plant → ℕ → ℕ
weight_at plant k =
    cond (eqb (real_sum plant).0 0) (gross_at plant k).0 (net_at plant k).0

-- the shares of X by these weights (crate apportion)
unfoldable pub excess_shares : NetKwh → NetKwh → Plant → List ℕ
excess_shares net reverse plant = shares (tabulate 8 (weight_at plant)) (excess net reverse plant).0

-- A unit's ceiling is `real` at the hub plus its share of X
unfoldable pub ceiling_at : NetKwh → NetKwh → Plant → ℕ → HubGrains
ceiling_at net reverse plant k =
    record { 0 = (hub_of (net_at plant k) plant.loss).0 + get_or (excess_shares net reverse plant) k 0 }

pub ceilings : NetKwh → NetKwh → Plant → List HubGrains
ceilings net reverse plant = tabulate 8 (ceiling_at net reverse plant)

-- The modified offer (crate offer): the price of grain i of the unit at place k
abbrev pub prices_of : List PlantUnit → ℕ → ℕ → ℕ
prices_of units k = price_at (get_or units k past_unit).offer (get_or units k past_unit).commitment

unfoldable pub price_of : Plant → ℕ → ℕ → ℕ
price_of plant = prices_of plant.unit

-- Fill by rising price, lower unit first at equal price, each unit to its ceiling, until H is placed
pub energies : NetKwh → NetKwh → Plant → List HubGrains
energies net reverse plant =
    fill (price_of plant) (grains_at (ceilings net reverse plant)) 8 (plant_energy net reverse plant.loss).0

-- A split gives each unit whole grains up to its ceiling, H in all; its cost adds each grain's modified price (specs/Fill): the
-- energies are such a split, and no other costs less
abbrev pub Allocated : NetKwh → NetKwh → Plant → List HubGrains → Type 0
Allocated net reverse plant a =
    Cheapest (price_of plant) (grains_at (ceilings net reverse plant)) 8 (plant_energy net reverse plant.loss).0 (grains_at a)

-- `ceilings` and `energies` are opened by these two alone, so that the crates above rest on the laws about them
pub ceilings_is : (net reverse : NetKwh) (plant : Plant) → ceilings net reverse plant ≡ tabulate 8 (ceiling_at net reverse plant)
unfolding ceilings
ceilings_is net reverse plant = refl

pub energies_is : (net reverse : NetKwh) (plant : Plant)
    → energies net reverse plant
    ≡ fill (price_of plant) (grains_at (ceilings net reverse plant)) 8 (plant_energy net reverse plant.loss).0
unfolding energies
energies_is net reverse plant = refl

-- for the code and the laws: what the sheet's ranges and orders, the record's ranges and the book's commitments give of a unit, and of
-- the plant
pub record UnitHolds (u : PlantUnit) : Type 0 where
  pub able : u.real.0 ≤ 1000000
  pub rated : (1 ≤ u.nominal.0) × (u.nominal.0 ≤ 1000000)
  pub committed : u.commitment.0 ≤ 1000000
  pub offered : offer_holds u.offer ≡ true

pub record PlantHolds (plant : Plant) : Type 0 where
  pub lost : plant.loss ≤ 2000
  pub some : (1 ≤ plant.units) × (plant.units ≤ 255)
  pub each : (k : ℕ) → member_at plant.units k ≡ true → UnitHolds (unit_at plant k)
