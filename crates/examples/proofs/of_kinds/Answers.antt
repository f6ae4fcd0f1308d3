-- Each of the five figures is at most 10^5, so that all are at most 5 × 10^5 and W is at most ten times that.
-- Assumes nothing.
use mathlib.Core.List.{[], ◌∷◌}
use Prim.Native.Nat.{◌≤◌}
use native.Mathlib.Omega.{arith}
use Rattle.finite.specs.Finite.{sum}
use Rattle.formulas.specs.declared.Deviations.{Deviations}
use Rattle.formulas.specs.Items.{whole_deviation}
use Rattle.charge.proofs.Laws.{counted_in, weighted_most}
use Rattle.examples.proofs.Ranges.{net_kwh}
use Rattle.examples.proofs.of_kinds.Goals as goal

pub returns : goal.returns
unfolding sum
returns c =
    let a = c.args in
    let d : Deviations = record { kwh = net_kwh a.d2 ∷ net_kwh a.d3 ∷ net_kwh 0 ∷ net_kwh a.d5 ∷ net_kwh a.d6 ∷ net_kwh 0 ∷ net_kwh a.d8 ∷ [] } in
    let split : whole_deviation d ≤ 500000 = omega arith in
    λ repair. (omega (arith, counted_in d 500000 split repair), omega (arith, weighted_most d 500000 split repair))
