-- The total of the parts is the definition's.
-- Assumes nothing.
use mathlib.Core.Path.{◌≡◌, ◌∙◌, ap}
use mathlib.Core.Bool.{not}
use mathlib.Core.List.{List}
use Prim.Native.Nat.{ℕ}
use native.Mathlib.Omega.{arith}
use lib.Dec.{eqb}
use Rattle.std.specs.Prelude.{sum_by}
use Rattle.finite.proofs.Sums.{sum_same}
use Rattle.energy.specs.declared.NetKwh.{NetKwh}
use Rattle.energy.proofs.Totals.{total_tabulate}
use Rattle.formulas.specs.Items.{kinds}
use Rattle.charge.specs.Test.{counted_part, q_part, counted_deviation}
use Rattle.charge.proofs.Weights.{q_same}
use Rattle.charge.proofs.counted_deviation.Goals.{After-counted_parts}
use Rattle.charge.proofs.counted_deviation.Goals as goal

abbrev number : NetKwh → ℕ
number e = e.0

parts_sum : (c : After-counted_parts) → sum_by number c.counted_parts.result ≡ (counted_deviation c.args.d c.args.repair).0
unfolding counted_deviation
parts_sum c =
    let d = c.args.d in
    let repair = c.args.repair in
    let part = q_part d (not (eqb repair 0)) in
    ap (λ (l : List NetKwh). sum_by number l) c.counted_parts.ensures
    ∙ (total_tabulate number kinds (λ j. record { 0 = part j }) ∙ sum_same kinds part (counted_part d repair) (λ j l. q_same d repair j))

pub total-requires : goal.total-requires
total-requires c = omega (arith, parts_sum (goal.at.total-requires c).After-counted_parts, c.requires)

pub returns : goal.returns
returns c =
    let e = c.total.ensures ∙ parts_sum (goal.at.returns c).After-counted_parts in
    λ i. record { 0 = e i }
