-- The energies are those of the plant that is taken out, and the amounts go by them.
-- Assumes nothing.
use mathlib.Core.Path.{◌≡◌, ◌∙◌, ap}
use mathlib.Core.List.{List}
use Rattle.energy.specs.declared.HubGrains.{HubGrains}
use Rattle.allocation.specs.Allocation.{energies}
use Rattle.settlement.specs.Ranges.{amounts_by, plant_by, hour_by}
use Rattle.settlement.proofs.Taken.{energy_due}
use Rattle.settlement.proofs.DueHour.settle_hour.Goals.{After-allocate-energy}
use Rattle.settlement.proofs.DueHour.settle_hour.Goals as goal

-- the energies are those of the definition's plant
energies_here : (c : After-allocate-energy) →
    let s = c.args.self.now in
    c.allocate-energy.result ≡ energies s.hour.now.net s.hour.now.reverse (plant_by s.day.now s.hour.now s.commitment.now)
energies_here c =
    let s = c.args.self.now in
    c.allocate-energy.ensures ∙ ap (energies s.hour.now.net s.hour.now.reverse) c.plant_of-plant.ensures

pub amounts-requires : goal.amounts-requires
amounts-requires c =
    let s = c.args.self.now in
    rw (energies_here (goal.at.amounts-requires c).After-allocate-energy) (energy_due s.day.now s.hour.now s.commitment.now s.in_range)

pub returns : goal.returns
unfolding hour_by
returns c =
    let s = c.args.self.now in
    let energy = energies_here (goal.at.returns c).After-allocate-energy in
    let amounts = c.amounts.ensures ∙ ap (λ (e : List HubGrains). amounts_by s.day.now s.hour.now s.commitment.now e) energy in
    λ i. record { energy = energy i; amounts = amounts i }
