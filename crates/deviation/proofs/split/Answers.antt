-- The kinds' sums and the deviation are in the range of the apportionment; each share becomes an energy at its place.
-- Assumes nothing.
use Rattle.std.proofs.Common.{rules, ◌∙◌, ap, sym, ℕ, List, length}
use Rattle.energy.specs.declared.NetKwh.{NetKwh}
use Rattle.finite.proofs.Chains.{tabulate_map}
use Rattle.apportion.specs.Shares.{shares}
use Rattle.deviation.specs.Deviation.{deviations_by, deviations_of}
use Rattle.deviation.proofs.Weights.{proportions_length, proportions_fit}
use Rattle.deviation.proofs.split.Goals as goal

pub apportion-requires : goal.apportion-requires
apportion-requires c =
    let a = c.args in
    let w = c.proportions-weights.ensures in
    let f = proportions_fit a.own a.u.now c.requires in
    (sym (ap length w ∙ proportions_length a.own a.u.now c.requires), rw w f.0, rw w f.1)

pub returns : goal.returns
unfolding deviations_of
returns c =
    let a = c.args in
    let e = tabulate_map {B = NetKwh} (λ (n : ℕ). record { 0 = n }) _ _ _ 0 c.map.ensures.items (λ x y q k. search rules) in
    let s = c.apportion.ensures ∙ ap (λ (w : List ℕ). shares w a.u.now.deviation.0) c.proportions-weights.ensures in
    (λ i. record { kwh = e i }) ∙ ap deviations_by s
