-- What the crates above use of the plant's units: what membership says of a place, and how the number of units below a place grows.
-- Assumes nothing.
use mathlib.Core.Path.{◌≡◌, refl, sym, ap, ◌∙◌}
use mathlib.Core.Bool.{true, false, ◌&&◌}
use Prim.Native.Nat.{ℕ, zero, suc, ◌+◌, ◌-◌, ◌≤◌, ◌<◌}
use native.Mathlib.Omega.{arith}
use borrow.Author.Tests.{leb-true, eqb-true, eqb-false, le-leb, lt-leb}
use lib.Dec.{leb, eqb}
use lib.Count.{ones, ones-le}
use Rattle.finite.specs.Finite.{sum}
use Rattle.finite.proofs.Sums.{sum_next, sum_mono}
use Rattle.finite.proofs.Tests.{and_left, and_right}
use Rattle.units.specs.Units.{bit, is_member, member_at, members, is_lowest}
use Rattle.units.proofs.Ones.{bit_lt, ones_members, ones_positive}

-- unit n is one of 1 to 8, and its bit is set
pub record Member (units n : ℕ) : Type 0 where
  pub least : 1 ≤ n
  pub most : n ≤ 8
  pub one : bit units (n - 1) ≡ 1

pub member : (units n : ℕ) → is_member units n ≡ true → Member units n
unfolding is_member
member units n t =
    let range = and_left (leb 1 n && leb n 8) (eqb (bit units (n - 1)) 1) t in
    record {
      least = leb-true 1 n (and_left (leb 1 n) (leb n 8) range);
      most = leb-true n 8 (and_right (leb 1 n) (leb n 8) range);
      one = eqb-true (bit units (n - 1)) 1 (and_right (leb 1 n && leb n 8) (eqb (bit units (n - 1)) 1) t);
    }

pub member_place : (units n : ℕ) → 1 ≤ n → member_at units (n - 1) ≡ is_member units n
unfolding member_at
member_place units n h = let e : n - 1 + 1 ≡ n = omega arith in ap (is_member units) e

pub member_bit : (units k : ℕ) → k < 8 → member_at units k ≡ eqb (bit units k) 1
unfolding member_at is_member
member_bit units k h =
    let e : k + 1 - 1 ≡ k = omega arith in
    let low : leb 1 (k + 1) ≡ true = le-leb 1 (k + 1) (omega arith) in
    let high : leb (k + 1) 8 ≡ true = le-leb (k + 1) 8 (omega arith) in
    rw (low, high, e)

pub place_past : (units k : ℕ) → 8 ≤ k → member_at units k ≡ false
unfolding member_at is_member
place_past units k h =
    let low : leb 1 (k + 1) ≡ true = le-leb 1 (k + 1) (omega arith) in
    let high : leb (k + 1) 8 ≡ false = lt-leb (k + 1) 8 (omega arith) in
    rw (low, high)

pub place_lt : (units k : ℕ) → member_at units k ≡ true → k < 8
unfolding member_at
place_lt units k t = omega (arith, (member units (k + 1) t).most)

pub place_one : (units k : ℕ) → member_at units k ≡ true → bit units k ≡ 1
place_one units k t = eqb-true (bit units k) 1 (sym (member_bit units k (place_lt units k t)) ∙ t)

pub place_zero : (units k : ℕ) → k < 8 → member_at units k ≡ false → bit units k ≡ 0
place_zero units k h t =
    omega (arith, bit_lt units k, eqb-false (bit units k) 1 (sym (member_bit units k h) ∙ t))

-- the number of units below a place: one place more, no more than places, and more below a higher place
module _ (units : ℕ) where
  pub members_zero : members units 0 ≡ 0
  unfolding members sum
  members_zero = refl

  pub members_next : (k : ℕ) → members units (k + 1) ≡ members units k + bit units k
  unfolding members
  members_next k = sum_next k (bit units)

  pub members_in : (k : ℕ) → member_at units k ≡ true → members units (k + 1) ≡ members units k + 1
  members_in k t = members_next k ∙ ap (λ (b : ℕ). members units k + b) (place_one units k t)

  pub members_out : (k : ℕ) → k < 8 → member_at units k ≡ false → members units (k + 1) ≡ members units k
  members_out k h t = omega (arith, members_next k, place_zero units k h t)

  pub members_le : (n : ℕ) → members units n ≤ n
  unfolding members sum
  members_le zero = omega arith
  members_le (suc n) = omega (arith, members_le n, bit_lt units n)

  pub members_mono : (j k : ℕ) → j ≤ k → members units j ≤ members units k
  unfolding members
  members_mono j k h = sum_mono j k (bit units) h

  -- a unit of the plant has a block
  pub members_has : (k : ℕ) → member_at units k ≡ true → members units k < members units 8
  members_has k t = omega (arith, members_in k t, members_mono (k + 1) 8 (omega (arith, place_lt units k t)))

  -- the number of units, of a mask of eight places
  pub count_members : units < 256 → ones units ≡ members units 8
  count_members h = ones_members units 8 h

  pub count_le : units < 256 → ones units ≤ 8
  count_le h = ones-le 8 units h

  pub count_positive : 0 < units → 0 < ones units
  count_positive h = ones_positive units h

  -- the lowest-numbered unit is in the plant, and none below it is
  pub lowest_member : (k : ℕ) → is_lowest units k ≡ true → member_at units k ≡ true
  unfolding is_lowest
  lowest_member k t = and_left (member_at units k) (eqb (members units k) 0) t

  pub lowest_first : (k : ℕ) → is_lowest units k ≡ true → members units k ≡ 0
  unfolding is_lowest
  lowest_first k t = eqb-true (members units k) 0 (and_right (member_at units k) (eqb (members units k) 0) t)

  pub lowest_below : (j k : ℕ) → is_lowest units k ≡ true → j < k → member_at units j ≡ false
  lowest_below j k t h =
      let l : j < 8 = omega (arith, place_lt units k (lowest_member k t)) in
      let z : bit units j ≡ 0 = omega (arith, members_next j, members_mono (j + 1) k (omega arith), lowest_first k t) in
      member_bit units j l ∙ ap (λ (b : ℕ). eqb b 1) z
