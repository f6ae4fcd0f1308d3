-- The count of calls in `extent_of` never runs out while a line is due: it is at first the number of bytes, and each call's line takes one at
-- least. So `extent_of` is what its sentence says, call after call up to the text's end or the first line that is no call.
-- Assumes nothing.
use mathlib.Core.Path.{◌≡◌, refl, ap, sym}
use mathlib.Core.Bool.{Bool, true, false, cond}
use mathlib.Core.List.{List}
use Prim.Native.Nat.{ℕ, zero, suc, ◌+◌, ◌≤◌, ◌<◌}
use native.Mathlib.Omega.{arith}
use borrow.Author.Tests.{le-ltb}
use lib.Dec.{ltb}
use lib.ListN.{length, drop}
use Rattle.std.specs.Prelude.{Option, Some, None, Result, Ok, Err, IfOk}
use Rattle.text.specs.Text.{seek, before, has, value_part}
use Rattle.text.specs.declared.Line.{Line}
use Rattle.text.specs.declared.TextFault.{TextFault}
use Rattle.text.specs.declared.TextFault.TheVariants.{TextEnds}
use Rattle.values.specs.Values.{value_of}
use Rattle.asks.specs.declared.LineKind.{LineKind}
use Rattle.asks.specs.declared.LineKind.TheVariants.{Take, Release, Move, Settle, Restate, Void, Total}
use Rattle.asks.specs.declared.Asking.{Asking}
use Rattle.asks.specs.declared.Extent.{Extent}
use Rattle.asks.specs.Asks.{kind_of, row_of, next_of, asking_by, line_asking, asking_at}
use Rattle.asks.specs.Extent.{counted, stop_at, extent_from, extent_by, extent_of}

-- the next call begins behind the line
next_behind : (text : List ℕ) (kind : LineKind) (after : ℕ) → after ≤ next_of text kind after
next_behind text Take after = omega arith
next_behind text Release after = omega arith
next_behind text Move after = omega arith
next_behind text Settle after = omega arith
next_behind text Restate after = omega arith
next_behind text Void after = omega arith
next_behind text Total after = omega arith

value_behind : (text : List ℕ) (at lf : ℕ) (kind : LineKind) (r : Result Line TextFault) → at ≤ lf → IfOk (asking_by text kind lf r) (λ a. at < a.next)
value_behind text at lf kind (Ok l) h = omega (arith, next_behind text kind (lf + 1))
value_behind text at lf kind (Err f) h = tt

line_behind : (text line : List ℕ) (at lf : ℕ) (kind : Option LineKind) → at ≤ lf → IfOk (line_asking text line lf kind) (λ a. at < a.next)
line_behind text line at lf (Some kind) h = value_behind text at lf kind (value_of (row_of kind) (value_part line)) h
line_behind text line at lf None h = tt

asked_behind : (text : List ℕ) (at : ℕ) → IfOk (asking_at text at) (λ a. at < a.next)
unfolding asking_at
asked_behind text at = by (has 10 (drop at text))
  where
    line : Result Asking TextFault
    line = line_asking text (before 10 (drop at text)) (at + seek 10 10 (drop at text)) (kind_of (before 10 (drop at text)))

    by : (ended : Bool) → IfOk (cond ended line (Err TextEnds)) (λ a. at < a.next)
    by true = line_behind text (before 10 (drop at text)) at (at + seek 10 10 (drop at text)) (kind_of (before 10 (drop at text))) (omega arith)
    by false = tt

-- two ways on that agree on what comes behind a line agree on the line
same_line : (further other : ℕ → Extent) (text : List ℕ) (at : ℕ) (r : Result Asking TextFault) → IfOk r (λ a. at < a.next)
    → ((next : ℕ) → at < next → further next ≡ other next) → extent_from further text at r ≡ extent_from other text at r
same_line further other text at (Ok a) on same = ap (counted 1) (same a.next on)
same_line further other text at (Err f) on same = refl

-- any two counts that last give the same
enough : (n m : ℕ) (text : List ℕ) (at : ℕ) → length text ≤ at + n → length text ≤ at + m → extent_by n text at ≡ extent_by m text at
unfolding extent_by
enough zero zero text at p q = refl
enough zero (suc m) text at p q = let past : length text ≤ at = omega arith in sym (simp (le-ltb _ _ past))
enough (suc n) zero text at p q = let past : length text ≤ at = omega arith in simp (le-ltb _ _ past)
enough (suc n) (suc m) text at p q =
    ap (λ (e : Extent). cond (ltb at (length text)) e (stop_at None))
    (same_line (extent_by n text) (extent_by m text) text at (asking_at text at) (asked_behind text at)
    (λ (next : ℕ) (on : at < next). enough n m text next (omega arith) (omega arith)))

pub extent_is : (text : List ℕ) (at : ℕ)
    → extent_of text at ≡ cond (ltb at (length text)) (extent_from (extent_of text) text at (asking_at text at)) (stop_at None)
unfolding extent_by
extent_is text at = enough (length text) (suc (length text)) text at (omega arith) (omega arith)
