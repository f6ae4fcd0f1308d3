-- The total of `real` is the definition's; eight of at most 10^6 fit.
-- Assumes nothing.
use mathlib.Core.Path.{◌≡◌, ◌∙◌, ap}
use mathlib.Core.List.{List}
use Prim.Native.Nat.{ℕ}
use native.Mathlib.Omega.{arith}
use Rattle.std.specs.Prelude.{sum_by}
use Rattle.finite.specs.Finite.{sum}
use Rattle.finite.proofs.Sums.{sum_most}
use Rattle.energy.specs.declared.NetKwh.{NetKwh}
use Rattle.energy.proofs.Totals.{total_tabulate}
use Rattle.allocation.specs.Allocation.{net_at, real_sum}
use Rattle.allocation.proofs.real_sum.Goals.{After-reals_of}
use Rattle.allocation.proofs.real_sum.Goals as goal

abbrev number : NetKwh → ℕ
number e = e.0

reals_sum : (c : After-reals_of) → sum_by number c.reals_of.result ≡ sum 8 (λ k. (net_at c.args.plant.now k).0)
reals_sum c = ap (λ (l : List NetKwh). sum_by number l) c.reals_of.ensures ∙ total_tabulate number 8 (net_at c.args.plant.now)

pub total-requires : goal.total-requires
unfolding sum
total-requires c =
    let most = sum_most 0 8 (λ k. (net_at c.args.plant.now k).0) (omega arith) 1000000 (λ k a b. c.requires k) in
    omega (arith, reals_sum (goal.at.total-requires c).After-reals_of, most)

pub returns : goal.returns
unfolding real_sum
returns c =
    let e = c.total.ensures ∙ reals_sum (goal.at.returns c).After-reals_of in
    λ i. record { 0 = e i }
