-- The promise that the crates above rest on. The ceilings add up to at least H and the offers' prices never fall, so the fill places H, each
-- unit within its ceiling, and no other split costs less.
-- Assumes nothing.
use mathlib.Core.Path.{◌≡◌, refl, ◌∙◌, ap}
use mathlib.Core.Bool.{Bool, true, false}
use Prim.Native.Nat.{ℕ, suc, ◌≤◌, ◌<◌}
use native.Mathlib.Omega.{arith}
use lib.ListN.{length}
use Rattle.finite.specs.Finite.{sum}
use Rattle.finite.proofs.Sums.{sum_has}
use Rattle.finite.proofs.Tables.{length_tabulate}
use Rattle.energy.specs.declared.NetKwh.{NetKwh}
use Rattle.energy.proofs.Laws.{hub_le}
use Rattle.units.specs.Units.{member_at}
use Rattle.offer.specs.Modified.{cost_to}
use Rattle.offer.proofs.Prices.{price_rises}
use Rattle.allocation.specs.declared.Plant.{Plant}
use Rattle.allocation.specs.Fill.{grains_at, cost_of}
use Rattle.allocation.specs.Allocation.{net_energy, plant_energy, unit_at, ceiling_at, ceilings, ceilings_is, price_of, energies, energies_is, Allocated, PlantHolds}
use Rattle.allocation.proofs.Threshold.{Rising, fill_cheapest, fill_length}
use Rattle.allocation.proofs.Weights.{ceilings_reach, ceiling_none}

-- a split's cost, by the costs of the modified offers
pub cost_is : (plant : Plant) (x : ℕ → ℕ)
    → cost_of (price_of plant) 8 x
    ≡ sum 8 (λ k. cost_to (unit_at plant k).offer (unit_at plant k).commitment (x k))
unfolding price_of cost_to
cost_is plant x = refl

module _ (net reverse : NetKwh) (plant : Plant) where
  -- there is a place for each of eight units
  pub ceilings_length : length (ceilings net reverse plant) ≡ 8
  ceilings_length = ap length (ceilings_is net reverse plant) ∙ length_tabulate 8 (ceiling_at net reverse plant)

  pub energies_length : length (energies net reverse plant) ≡ 8
  energies_length =
      ap length (energies_is net reverse plant)
      ∙ fill_length (price_of plant) (grains_at (ceilings net reverse plant)) 8 (plant_energy net reverse plant.loss).0

  module _ (h : PlantHolds plant) where
    -- outside the plant the ceiling is 0, and no grain's price counts
    rises : Rising (price_of plant) (grains_at (ceilings net reverse plant)) 8
    unfolding price_of
    rises u i l m =
        go (member_at plant.units u) refl
      where
        go : (t : Bool) → member_at plant.units u ≡ t → price_of plant u i ≤ price_of plant u (suc i)
        go true t = price_rises (unit_at plant u).offer (h.each u t).offered (unit_at plant u).commitment i
        go false t = absurd (omega (arith, ceiling_none plant h net reverse u l t))

    -- the energies add up to H, each within its ceiling, and every other such split costs at least as much
    pub energies_allocated : Allocated net reverse plant (energies net reverse plant)
    energies_allocated =
        rw (energies_is net reverse plant)
        (fill_cheapest (price_of plant) (grains_at (ceilings net reverse plant)) 8 rises (plant_energy net reverse plant.loss).0 (ceilings_reach plant h net reverse))

    pub energies_total : sum 8 (grains_at (energies net reverse plant)) ≡ (plant_energy net reverse plant.loss).0
    energies_total = energies_allocated.split.total

    pub energy_within : (k : ℕ) → k < 8 → grains_at (energies net reverse plant) k ≤ grains_at (ceilings net reverse plant) k
    energy_within = energies_allocated.split.within

    -- outside the plant a place gets nothing
    pub energy_none : (k : ℕ) → k < 8 → member_at plant.units k ≡ false → grains_at (energies net reverse plant) k ≡ 0
    energy_none k l t = omega (arith, energy_within k l, ceiling_none plant h net reverse k l t)

    -- no energy is over what the plant can send in an hour
    pub energy_most : net.0 ≤ 8000000 → (k : ℕ) → k < 8 → grains_at (energies net reverse plant) k ≤ 80000000000
    unfolding plant_energy net_energy
    energy_most m k l =
        omega (
          arith,
          sum_has 8 k (grains_at (energies net reverse plant)) l,
          energies_total,
          hub_le (net_energy net reverse) plant.loss,
        )
