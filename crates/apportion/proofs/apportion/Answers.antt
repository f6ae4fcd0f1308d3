-- Where the weights add up to 0, the shares are zeros. Otherwise the quotients add up to at most the total, so what they leave is
-- what the definition adds.
-- Assumes nothing.
use Rattle.apportion.proofs.Laws.{shares_zero, quotients_le}
use Rattle.apportion.proofs.Steps.{quotients_sum, due_shares}
use Rattle.apportion.specs.Shares.{sum_of, quotient, Fits, Due}
use Rattle.finite.specs.Finite.{tabulate}
use lib.ListN.{length, replicate}
use native.Mathlib.Omega.{arith}
use mathlib.Core.List.{List}
use Prim.Native.Nat.{ℕ, ◌≤◌, ◌<◌, ◌-◌}
use mathlib.Core.Path.{◌≡◌, ap, sym, ◌∙◌}
use Rattle.finite.proofs.Entries.{sum_entries}
use Rattle.std.specs.Prelude.{sum as list_sum}
use Rattle.std.proofs.Common.{rules}
use Rattle.apportion.proofs.apportion.Goals.{Else-all-eq0}
use Rattle.apportion.proofs.apportion.Goals as goal

-- after the quotients a: some weight is over 0
module _ (w : List ℕ) (total all : ℕ) (a : List ℕ) (e : all ≡ sum_of w) (some : 0 < sum_of w) (begun : a ≡ tabulate (length w) (quotient all total w)) where
  within : sum_of a ≤ total
  within = omega (arith, quotients_sum w total all a e begun, quotients_le w total some)

  due_here : (s : ℕ) → Fits w total → s ≡ sum_of a → Due w total all (total - s) a
  due_here s fits summed = record {
    some = some;
    fits = fits;
    summed = e;
    due = ap (λ (x : ℕ). total - x) (summed ∙ quotients_sum w total all a e begun);
    begun = begun;
  }

-- the sums, in the words of the definitions
summed : (w : List ℕ) (n : ℕ) → n ≡ list_sum w → n ≡ sum_of w
summed w n e = e ∙ sym (sum_entries w)

pub sum_of-all-requires : goal.sum_of-all-requires
sum_of-all-requires c = omega (arith, sum_entries c.args.weights.now)

pub returns-then-all-eq0 : goal.returns-then-all-eq0
returns-then-all-eq0 c =
    let e = sym (summed c.args.weights.now _ c.sum_of-all.ensures) ∙ c.if-all-eq0.true in
    let z : c.fill.new.self ≡ replicate (length c.args.shares.now) 0 = search rules in
    z ∙ (ap (λ (n : ℕ). replicate n 0) c.requires.0 ∙ sym (shares_zero _ _ e))

some : (c : Else-all-eq0) → 0 < sum_of c.args.weights.now
some c = omega (arith, summed c.args.weights.now _ c.sum_of-all.ensures, c.if-all-eq0.false)

pub sum_of-requires : goal.sum_of-requires
sum_of-requires c =
    omega (arith, within _ _ _ _ (summed _ _ c.sum_of-all.ensures) (some (goal.at.sum_of-requires c).Else-all-eq0) c.quotients.ensures, sum_entries c.quotients.new.shares)

pub overflow_sub-rest : goal.overflow_sub-rest
overflow_sub-rest c =
    omega (arith, within _ _ _ _ (summed _ _ c.sum_of-all.ensures) (some (goal.at.overflow_sub-rest c).Else-all-eq0) c.quotients.ensures, summed c.quotients.new.shares _ c.sum_of.ensures)

pub add_ones-requires : goal.add_ones-requires
add_ones-requires c =
    due_here _ _ _ _ (summed _ _ c.sum_of-all.ensures) (some (goal.at.add_ones-requires c).Else-all-eq0) c.quotients.ensures _ c.requires.2 (summed _ _ c.sum_of.ensures)

pub returns : goal.returns
returns c =
    c.add_ones.ensures
    ∙ due_shares _ _ _ _ _ (due_here _ _ _ _ (summed _ _ c.sum_of-all.ensures) (some (goal.at.returns c).Else-all-eq0) c.quotients.ensures _ c.requires.2 (summed _ _ c.sum_of.ensures))
