-- The hub energy of N, as `above` gives it.
-- Assumes nothing.
use mathlib.Core.Path.{◌≡◌, ◌∙◌, ap}
use Rattle.energy.specs.declared.NetKwh.{NetKwh}
use Rattle.energy.specs.Energy.{hub_of}
use Rattle.allocation.specs.Allocation.{above, net_energy, plant_energy}
use Rattle.allocation.proofs.plant_energy.Goals as goal

pub returns : goal.returns
unfolding plant_energy net_energy
returns c =
    let a = c.args in
    let n : c.above.result ≡ above a.net a.reverse = λ i. record { 0 = c.above.ensures i } in
    c.hub_of.ensures ∙ ap (λ (n : NetKwh). hub_of n a.loss) n
