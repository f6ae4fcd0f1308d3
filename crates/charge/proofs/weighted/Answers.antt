-- The chain's sum of the parts is the definition's.
-- Assumes nothing.
use Rattle.std.proofs.Common.{rules, ◌≡◌, ◌∙◌, ap, ℕ, ◌<◌, ◌^◌, List, arith}
use Rattle.std.specs.Prelude.{not, eqb, sum as list_sum}
use Rattle.finite.proofs.Sums.{sum_same}
use Rattle.finite.proofs.Entries.{sum_tabulate}
use Rattle.formulas.specs.Items.{kinds}
use Rattle.charge.specs.Test.{weighted_part, w_part, weighted}
use Rattle.charge.proofs.Weights.{w_same, part_fits}
use Rattle.charge.proofs.weighted.Goals.{After-weighted_parts}
use Rattle.charge.proofs.weighted.Goals as goal

parts_sum : (c : After-weighted_parts) → list_sum c.weighted_parts.result ≡ weighted c.args.d c.args.repair
unfolding weighted
parts_sum c =
    let t = not (eqb c.args.repair 0) in
    ap (λ (l : List ℕ). list_sum l) c.weighted_parts.ensures ∙ (sum_tabulate kinds (w_part c.args.d t) ∙ sum_same kinds (w_part c.args.d t) (weighted_part c.args.d c.args.repair) (λ j l. w_same c.args.d c.args.repair j))

pub weighted_parts-requires : goal.weighted_parts-requires
weighted_parts-requires c = part_fits c.args.d c.args.repair c.requires

pub sum-requires-clause-fits : goal.sum-requires-clause-fits
sum-requires-clause-fits c =
    let fits : list_sum c.weighted_parts.result < 2 ^ 64 = omega (arith, parts_sum (goal.at.sum-requires-clause-fits c).After-weighted_parts, c.requires) in search rules

pub returns : goal.returns
returns c =
    let total : c.sum.result ≡ list_sum c.weighted_parts.result = search rules in
    total ∙ parts_sum (goal.at.returns c).After-weighted_parts
