-- What passed tests say: the hour is one of 24, the unit one of 8, and both units of a move are the plant's.
-- Assumes nothing.
use mathlib.Core.Path.{◌≡◌, refl}
use mathlib.Core.Bool.{Bool, true, false, not, ◌||◌}
use Prim.Native.Nat.{ℕ, ◌≤◌}
use native.Mathlib.Omega.{arith}
use borrow.Author.Tests.{ltb-false, not-false}
use lib.Dec.{ltb}
use Rattle.units.specs.Units.{is_member}
use Rattle.ledger.specs.Calls.{bad_hour, unknown_units}

or_left : (a b : Bool) → (a || b) ≡ false → a ≡ false
or_left true b e = e
or_left false b e = refl

or_right : (a b : Bool) → (a || b) ≡ false → b ≡ false
or_right true b e = absurd (let z : ◌≡◌ {A = ℕ} 0 1 = cc in omega arith)
or_right false b e = e

pub hour_in : (hour : ℕ) → bad_hour hour ≡ false → (1 ≤ hour) × (hour ≤ 24)
hour_in hour e = (ltb-false hour 1 (or_left (ltb hour 1) _ e), ltb-false 24 hour (or_right (ltb hour 1) _ e))

pub unit_in : (unit : ℕ) → (ltb unit 1 || ltb 8 unit) ≡ false → (1 ≤ unit) × (unit ≤ 8)
unit_in unit e = (ltb-false unit 1 (or_left (ltb unit 1) _ e), ltb-false 8 unit (or_right (ltb unit 1) _ e))

pub from_known : (units from to : ℕ) → unknown_units units from to ≡ false → is_member units from ≡ true
from_known units from to e = not-false _ (or_left (not (is_member units from)) _ e)

pub to_known : (units from to : ℕ) → unknown_units units from to ≡ false → is_member units to ≡ true
to_known units from to e = not-false _ (or_right (not (is_member units from)) _ e)
