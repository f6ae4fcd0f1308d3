-- The kind that a span counts as is a kind again.
-- Assumes nothing.
use mathlib.Core.Path.{◌≡◌}
use mathlib.Core.Bool.{Bool, true, false, cond, ◌||◌}
use Prim.Native.Nat.{◌≤◌}
use native.Mathlib.Omega.{arith}
use borrow.Author.Tests.{ne_eqb}
use lib.Dec.{eqb}
use Rattle.record.specs.declared.Span.{Span}
use Rattle.record.specs.Limits.{last_kind}
use Rattle.record.specs.Spans.{counted_kind}
use Rattle.record.specs.InRange.{SpanInRange}

pub other_kind : (s : Span) → (s.kind ≡ 2 → ⊥) → (s.kind ≡ 3 → ⊥) → s.kind ≡ counted_kind s
unfolding counted_kind
other_kind s a b = simp (ne_eqb _ _ a, ne_eqb _ _ b)

pub counted_in : (s : Span) → SpanInRange s → (1 ≤ counted_kind s) × (counted_kind s ≤ last_kind)
unfolding counted_kind
counted_in s r = by (eqb s.kind 2 || eqb s.kind 3) (eqb s.cause 1) (eqb s.cause 2)
  where
    by : (a b c : Bool) → (1 ≤ cond a (cond b 7 (cond c 5 s.kind)) s.kind) × (cond a (cond b 7 (cond c 5 s.kind)) s.kind ≤ last_kind)
    by true true c = (omega arith, omega arith)
    by true false true = (omega arith, omega arith)
    by true false false = (r.kind_least, r.kind_most)
    by false b c = (r.kind_least, r.kind_most)
