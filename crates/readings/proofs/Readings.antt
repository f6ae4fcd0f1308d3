-- A reading that counts is at most 10^6, and eight of them at most 8 × 10^6.
-- Assumes nothing.
use mathlib.Core.Path.{◌≡◌, refl}
use mathlib.Core.Bool.{Bool, true, false, cond}
use Prim.Native.Nat.{ℕ, ◌≤◌}
use native.Mathlib.Omega.{arith}
use Rattle.std.specs.Prelude.{Option, Some, None, unwrap_or}
use Rattle.std.specs.Option.{ForSome}
use Rattle.finite.specs.Finite.{sum}
use Rattle.finite.proofs.Sums.{sum_most}
use Rattle.energy.specs.declared.NetKwh.{NetKwh}
use Rattle.units.specs.Units.{member_at}
use Rattle.record.specs.declared.Record.{Record}
use Rattle.record.specs.Spans.{unit_at}
use Rattle.record.specs.InRange.{InRange}
use Rattle.readings.specs.Readings.{reading_of, place_reading}

reading_most : (r : Record) (units : ℕ) → InRange units r → (k : ℕ) → place_reading r units k ≤ 1000000
reading_most r units h k = by (member_at units k) refl
  where
    of : (n : Option NetKwh) → ForSome n (λ n. n.0 ≤ 1000000) → (unwrap_or n (record { 0 = 0 })).0 ≤ 1000000
    of None h = omega arith
    of (Some n) h = h n refl

    by : (t : Bool) → member_at units k ≡ t → cond t (reading_of (unit_at r k)) 0 ≤ 1000000
    by true e = of (unit_at r k).reading (h.unit k e).reading
    by false e = omega arith

pub total_most : (r : Record) (units : ℕ) → InRange units r → sum 8 (place_reading r units) ≤ 8000000
unfolding sum
total_most r units h = omega (arith, sum_most 0 8 (place_reading r units) (omega arith) 1000000 (λ k a b. reading_most r units h k))
