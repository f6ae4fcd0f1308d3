-- For the code of the fill: each unit's ceiling, its energy so far and its next block, of grains that follow one another at one price.
use Rattle.std.specs.Prelude.{◌≡◌, Bool, true, List, ℕ, ◌<◌, ◌≤◌, ltb, get_or}
use Rattle.std.specs.declared.option.Option.{Option}
use Rattle.std.specs.declared.option.Option.TheVariants.{None as none, Some as at}
use Rattle.finite.specs.Finite.{tabulate}
use Rattle.energy.specs.declared.HubGrains.{HubGrains}
use Rattle.offer.specs.Offer.{offer_holds}
use Rattle.offer.specs.Modified.{IsBlock}
use Rattle.allocation.specs.declared.PlantUnit.{PlantUnit}
use Rattle.allocation.specs.declared.Filling.{Filling}
use Rattle.allocation.specs.Fill.{grains_at}
use Rattle.allocation.specs.Allocation.{past_unit}

-- a unit that was picked, with the price of its next grain
abbrev pub priced : (ℕ → ℕ) → Option ℕ → Option (ℕ × ℕ)
priced next none = none
priced next (at u) = at (u, next u)

-- what an index past the end reads; unit u in the fill
abbrev pub no_filling : Filling
no_filling = record { ceiling = record { 0 = 0 }; energy = record { 0 = 0 }; next = record { price = 0; end = record { 0 = 0 } } }

abbrev pub filling_at : List Filling → ℕ → Filling
filling_at fillings u = get_or fillings u no_filling

-- the price of a unit's next block
abbrev pub next_price : List Filling → ℕ → ℕ
next_price fillings u = (filling_at fillings u).next.price

-- whether a unit has room below its ceiling
abbrev pub has_room : List Filling → ℕ → Bool
has_room fillings u = ltb (filling_at fillings u).energy.0 (filling_at fillings u).ceiling.0

-- what each unit has so far
abbrev pub given : List Filling → List HubGrains
given fillings = tabulate 8 (λ k. (filling_at fillings k).energy)

-- a unit with room has the block that starts at its next grain
abbrev pub HasBlock : PlantUnit → Filling → Type 0
HasBlock u f = f.energy.0 < f.ceiling.0 → IsBlock u.offer u.commitment f.energy.0 f.ceiling.0 f.next.price f.next.end.0

-- each unit has its ceiling, and its next block
abbrev pub Fillings : List PlantUnit → List HubGrains → List Filling → Type 0
Fillings units ceilings fillings =
    (u : ℕ) → u < 8
    → ((filling_at fillings u).ceiling ≡ get_or ceilings u (record { 0 = 0 })) × HasBlock (get_or units u past_unit) (filling_at fillings u)

-- a unit's offer and its commitment keep their ranges, and those of each unit with a ceiling over 0
abbrev pub Offered : PlantUnit → Type 0
Offered u = (offer_holds u.offer ≡ true) × (u.commitment.0 ≤ 1000000000)

abbrev pub EachOffered : List PlantUnit → List HubGrains → Type 0
EachOffered units ceilings = (u : ℕ) → u < 8 → 0 < grains_at ceilings u → Offered (get_or units u past_unit)
