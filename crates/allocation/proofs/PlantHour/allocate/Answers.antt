-- The fill of H with the ceilings. A unit with a ceiling over 0 is in the plant, so its offer and commitment keep their ranges.
-- Assumes nothing.
use mathlib.Core.Path.{sym, subst, ◌∙◌, ap}
use mathlib.Core.List.{List}
use Rattle.energy.specs.declared.HubGrains.{HubGrains}
use Rattle.allocation.specs.Fill.{grains_at, fill}
use Rattle.allocation.specs.Allocation.{ceilings, price_of, energies_is}
use Rattle.allocation.specs.Blocks.{EachOffered}
use Rattle.allocation.proofs.Weights.{offered}
use Rattle.allocation.proofs.PlantHour.allocate.Goals as goal

pub fill-requires : goal.fill-requires
fill-requires c =
    let a = c.args.self.now in
    subst (λ (l : List HubGrains). EachOffered a.plant.now.unit l) (sym c.ceilings-limits.ensures) (offered a.plant.now a.in_range.1 a.net a.reverse)

pub returns : goal.returns
unfolding price_of
returns c =
    let a = c.args.self.now in
    let plant = a.plant.now in
    let total = c.plant_energy-total in
    let p = price_of plant in
    c.fill.ensures
    ∙ (ap (λ (l : List HubGrains). fill p (grains_at l) 8 total.result.0) c.ceilings-limits.ensures
    ∙ (ap (λ (g : HubGrains). fill p (grains_at (ceilings a.net a.reverse plant)) 8 g.0) total.ensures
    ∙ sym (energies_is a.net a.reverse plant)))
