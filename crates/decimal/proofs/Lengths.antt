-- How many bytes are written: a number below 10 ^ k has at most k digits, by its tens. A machine word has at most 20 bytes, sign included.
-- Assumes nothing.
use mathlib.Core.Path.{◌≡◌, refl, ap}
use mathlib.Core.Bool.{Bool, true, false, cond}
use mathlib.Core.List.{List, [], ◌∷◌}
use Prim.Native.Nat.{ℕ, zero, suc, ◌+◌, ◌/◌, ◌%◌, ◌^◌, ◌≤◌, ◌<◌}
use native.Mathlib.Nat.{pow-succ'}
use native.Mathlib.Omega.{arith}
use borrow.Author.Tests.{ltb-true, ltb-false}
use lib.Dec.{ltb}
use lib.IntN.{ℤ, pos, negsuc}
use lib.ListN.{length, set, length-append}
use lib.Signed.{mag}
use Rattle.decimal.specs.Output.{Output, output, with_byte, written}
use Rattle.decimal.specs.Decimal.{digits_in, digits, signed}
use Rattle.decimal.proofs.Laws.{one_digit, more_digits}

-- no byte takes more than one place
by_room : (t : Bool) (o : Output) (b : ℕ) → (cond t (output (set o.buffer o.place b) (o.place + 1)) o).place ≤ o.place + 1
by_room true o b = omega arith
by_room false o b = omega arith

pub byte_place : (o : Output) (b : ℕ) → (with_byte o b).place ≤ o.place + 1
unfolding with_byte
byte_place o b = by_room (ltb o.place (length o.buffer)) o b

pub written_place : (o : Output) (bs : List ℕ) → (written o bs).place ≤ o.place + length bs
unfolding written
written_place o [] = omega arith
written_place o (b ∷ bs) = omega (arith, written_place (with_byte o b) bs, byte_place o b)

last_digit : (n : ℕ) → digits_in zero n ≡ (48 + n) ∷ []
unfolding digits_in
last_digit n = refl

-- the digits of a number below 10 ^ (k + 1)
few_digits : (k left n : ℕ) → n < 10 ^ suc k → length (digits_in left n) ≤ suc k
few_digits k zero n h = omega (arith, ap length (last_digit n))
few_digits zero (suc left) n h = let small : n < 10 = omega (arith, pow-succ' 10 0) in omega (arith, ap length (one_digit (suc left) n small))
few_digits (suc k) (suc left) n h = by (ltb n 10) refl (few_digits k left (n / 10))
  where
    by : (t : Bool) → ltb n 10 ≡ t → (n / 10 < 10 ^ suc k → length (digits_in left (n / 10)) ≤ suc k) → length (digits_in (suc left) n) ≤ suc (suc k)
    by true e f = omega (arith, ap length (one_digit (suc left) n (ltb-true n 10 e)))
    by false e f =
        let tens : n / 10 < 10 ^ suc k = omega (arith, pow-succ' 10 (suc k)) in
        omega (arith, f tens, ap length (more_digits left n (ltb-false n 10 e)), length-append (digits_in left (n / 10)) ((48 + n % 10) ∷ []))

pub digits_most : (n : ℕ) → n < 2 ^ 64 → length (digits n) ≤ 20
unfolding digits
digits_most n h = few_digits 19 n n (omega arith)

pub signed_most : (z : ℤ) → mag z < 2 ^ 63 → length (signed z) ≤ 20
unfolding signed digits
signed_most (pos n) h = omega (arith, few_digits 18 n n (omega arith))
signed_most (negsuc n) h = omega (arith, few_digits 18 (suc n) (suc n) (omega arith))

-- the place after what a function wrote
pub place_byte : (o p : Output) (b : ℕ) → p ≡ with_byte o b → p.place ≤ o.place + 1
place_byte o p b e = omega (arith, ap (λ (x : Output). x.place) e, byte_place o b)

pub place_most : (o p : Output) (bs : List ℕ) (m : ℕ) → p ≡ written o bs → length bs ≤ m → p.place ≤ o.place + m
place_most o p bs m e h = omega (arith, ap (λ (x : Output). x.place) e, written_place o bs)
