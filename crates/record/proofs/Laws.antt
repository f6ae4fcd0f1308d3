-- A record that passes refusal 31 has units of 60 minutes.
-- Assumes nothing.
use mathlib.Core.Path.{◌≡◌}
use mathlib.Core.Bool.{true}
use Prim.Native.Nat.{ℕ}
use borrow.Author.Tests.{eqb-true}
use Rattle.finite.proofs.Tests.{every_at}
use Rattle.units.specs.Units.{member_at}
use Rattle.units.proofs.Laws.{place_lt}
use Rattle.record.specs.declared.Record.{Record}
use Rattle.record.specs.Limits.{hour_minutes}
use Rattle.record.specs.Spans.{unit_at, minutes_of, place_minutes, minutes_hold}

-- a record that passes refusal 31
pub minutes_told : (r : Record) (units k : ℕ) → minutes_hold r units ≡ true → member_at units k ≡ true → minutes_of (unit_at r k) ≡ hour_minutes
unfolding minutes_hold
minutes_told r units k h m =
    let t : place_minutes r units k ≡ true = every_at 8 (place_minutes r units) h k (place_lt units k m) in
    eqb-true (minutes_of (unit_at r k)) hour_minutes (rw m at t)
