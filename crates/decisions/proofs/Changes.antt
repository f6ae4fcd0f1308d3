-- A take, release or move as one change of two commitments: the change is tested as its call is, its places in the book are those of its hour and
-- units, and what its passed tests say.
-- Assumes nothing.
use Rattle.std.specs.Prelude.{Ok}
use mathlib.Core.Path.{◌≡◌, refl}
use mathlib.Core.Bool.{Bool, true, false, cond, ◌||◌, and-true, and_self, or_self}
use Prim.Native.Nat.{ℕ, ◌+◌, ◌-◌, ◌≤◌, ◌<◌}
use native.Mathlib.Omega.{arith}
use borrow.Author.Tests.{ltb-false, le-ltb, eq-eqb}
use lib.Dec.{ltb}
use Rattle.units.specs.Units.{is_member}
use Rattle.units.proofs.Laws.{member}
use Rattle.state.specs.Sizes.{entry_of}
use Rattle.ledger.specs.Calls.{verdict, bad_hour, take_tests, release_tests, move_tests}
use Rattle.ledger.proofs.Places.{passed}
use Rattle.ledger.proofs.Passed.{hour_in, unit_in, from_known, to_known}
use Rattle.decisions.specs.declared.CommitmentChange.{CommitmentChange}
use Rattle.decisions.specs.Changes.{hour_index, entry_index, take_change, release_change, move_change, change_tests}

-- the rows that a call has not do not hold of its change
pub take_tests_lem : (units hour unit kwh : ℕ) (settled : Bool) (held last : ℕ)
    → verdict (change_tests units (take_change hour unit kwh) settled held held last) ≡ verdict (take_tests units hour unit kwh settled held last)
unfolding verdict
take_tests_lem units hour unit kwh settled held last = simp (or_self, le-ltb held 0 (omega arith))

pub release_tests_lem : (units hour unit kwh : ℕ) (settled : Bool) (held last : ℕ) → held ≤ last
    → verdict (change_tests units (release_change hour unit kwh) settled held held last) ≡ verdict (release_tests units hour unit kwh settled held)
unfolding verdict
release_tests_lem units hour unit kwh settled held last h = simp (or_self, and-true, le-ltb last (held + 0) (omega arith))

pub move_tests_lem : (units hour from to kwh : ℕ) (settled : Bool) (source held last : ℕ)
    → verdict (change_tests units (move_change hour from to kwh) settled source held last) ≡ verdict (move_tests units hour from to kwh settled source held last)
unfolding verdict
move_tests_lem units hour from to kwh settled source held last = simp and_self

-- where an hour and its unit stand in the book
pub in_hour : (hour : ℕ) → bad_hour hour ≡ false → (hour_index hour ≡ hour - 1) × (hour - 1 < 24)
unfolding hour_index
in_hour hour e = (simp e, omega (arith, hour_in hour e))

pub entry_in : (units hour unit : ℕ) → bad_hour hour ≡ false → is_member units unit ≡ true → (entry_index hour unit ≡ entry_of (hour - 1) (unit - 1)) × (unit - 1 < 8)
unfolding entry_index
entry_in units hour unit e m =
    let u = member units unit m in
    (simp (e, le-ltb unit 1 u.least, le-ltb 8 unit u.most), omega (arith, u.most))

pub hour_lt : (hour : ℕ) → hour_index hour < 24
unfolding hour_index
hour_lt hour = by (bad_hour hour) refl
  where
    by : (t : Bool) → bad_hour hour ≡ t → cond t 0 (hour - 1) < 24
    by true e = omega arith
    by false e = omega (arith, hour_in hour e)

pub entry_lt : (hour unit : ℕ) → entry_index hour unit < 192
unfolding entry_index
entry_lt hour unit = by (bad_hour hour) refl (ltb unit 1 || ltb 8 unit) refl
  where
    by : (t : Bool) → bad_hour hour ≡ t → (u : Bool) → (ltb unit 1 || ltb 8 unit) ≡ u → cond (t || u) 0 (entry_of (hour - 1) (unit - 1)) < 192
    by true e u f = omega arith
    by false e true f = omega arith
    by false e false f = omega (arith, hour_in hour e, unit_in unit f)

-- what passed tests say
pub record Passed (units : ℕ) (c : CommitmentChange) (settled : Bool) (source held last : ℕ) : Type 0 where
  pub hour_is : bad_hour c.hour ≡ false
  pub from_is : is_member units c.from ≡ true
  pub to_is : is_member units c.to ≡ true
  pub open_is : settled ≡ false
  pub given : c.out.0 ≤ source
  pub room : held + c.into.0 ≤ last
  pub apart : c.moves ≡ true → c.from ≡ c.to → ⊥

pub changed_passed : (units : ℕ) (c : CommitmentChange) (settled : Bool) (source held last : ℕ) → verdict (change_tests units c settled source held last) ≡ Ok tt
    → Passed units c settled source held last
changed_passed units c settled source held last e =
    let p10 = passed _ _ e in
    let p11 = passed _ _ p10.1 in
    let p24 = passed _ _ p11.1 in
    let p20 = passed _ _ p24.1 in
    let p21 = passed _ _ p20.1 in
    let p23 = passed _ _ p21.1 in
    let p22 = passed _ _ p23.1 in
    record {
      hour_is = p10.0;
      from_is = from_known units c.from c.to p11.0;
      to_is = to_known units c.from c.to p11.0;
      open_is = p20.0;
      given = ltb-false source c.out.0 p23.0;
      room = ltb-false last (held + c.into.0) p22.0;
      apart = λ m same. let t = eq-eqb c.from c.to same in absurd (let z : ◌≡◌ {A = ℕ} 0 1 = cc in omega arith);
    }
