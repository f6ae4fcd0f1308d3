-- What is written in two parts is written as one, by going through the first part. The buffer keeps its length. The digits of a number
-- are those of its tens and one more, so those of its hundreds and two more: a definition that could go on for longer gives the same digits.
-- Assumes nothing.
use mathlib.Core.Path.{◌≡◌, refl, ap, sym, ◌∙◌}
use mathlib.Core.Bool.{Bool, true, false, cond}
use mathlib.Core.List.{List, [], ◌∷◌, ◌++◌, append_assoc, append-nil}
use Prim.Native.Nat.{ℕ, zero, suc, ◌+◌, ◌*◌, ◌/◌, ◌%◌, ◌≤◌, ◌<◌}
use native.Mathlib.Omega.{arith}
use lib.Arith.{mod-mul}
use lib.Dec.{ltb}
use lib.ListN.{length, set, length-set, take, get_or}
use lib.Seq.{take-suc}
use native.Mathlib.Numerals.{add-one}
use Rattle.decimal.specs.Output.{Output, output, with_byte, written}
use Rattle.decimal.specs.Decimal.{digits_in, digits, two_digits}
use borrow.Author.Tests.{lt-ltb, le-ltb, ltb-true, ltb-false}

-- first some bytes, then others: both together
pub written_append : (o : Output) (xs ys : List ℕ) → written (written o xs) ys ≡ written o (xs ++ ys)
unfolding written
written_append o [] ys = refl
written_append o (x ∷ xs) ys = written_append (with_byte o x) xs ys

-- the next byte of a list
pub written_next : (o : Output) (xs : List ℕ) (i : ℕ) → i < length xs → written (written o (take i xs)) (get_or xs i 0 ∷ []) ≡ written o (take (i + 1) xs)
written_next o xs i h =
    written_append o (take i xs) (get_or xs i 0 ∷ [])
    ∙ ap (written o) (sym (take-suc xs i 0 h) ∙ ap (λ (n : ℕ). take n xs) (sym (add-one i)))

pub written_none : (o : Output) → written o [] ≡ o
unfolding written
written_none o = refl

pub written_end : (o : Output) (xs : List ℕ) → written o (xs ++ []) ≡ written o xs
written_end o xs = ap (written o) (append-nil xs)

-- what is written behind what stands there already
pub then : (o p : Output) (xs ys : List ℕ) {r : Output} → p ≡ written o xs → r ≡ written p ys → r ≡ written o (xs ++ ys)
then o p xs ys e f = f ∙ (ap (λ (q : Output). written q ys) e ∙ written_append o xs ys)

by_room : (t : Bool) (o : Output) (b : ℕ) → length (cond t (output (set o.buffer o.place b) (o.place + 1)) o).buffer ≡ length o.buffer
by_room true o b = length-set o.buffer o.place b
by_room false o b = refl

-- the buffer keeps its length
pub length_byte : (o : Output) (b : ℕ) → length (with_byte o b).buffer ≡ length o.buffer
unfolding with_byte
length_byte o b = by_room (ltb o.place (length o.buffer)) o b

pub length_written : (o : Output) (bs : List ℕ) → length (written o bs).buffer ≡ length o.buffer
unfolding written
length_written o [] = refl
length_written o (b ∷ bs) = length_written (with_byte o b) bs ∙ length_byte o b

-- a number below 10 is one digit
pub one_digit : (left n : ℕ) → n < 10 → digits_in left n ≡ (48 + n) ∷ []
unfolding digits_in
one_digit zero n h = refl
one_digit (suc left) n h = rw (lt-ltb n 10 h)

pub digits_one : (n : ℕ) → n < 10 → digits n ≡ (48 + n) ∷ []
unfolding digits
digits_one n h = one_digit n n h

pub more_digits : (left n : ℕ) → 10 ≤ n → digits_in (suc left) n ≡ digits_in left (n / 10) ++ ((48 + n % 10) ∷ [])
unfolding digits_in
more_digits left n h = rw (le-ltb n 10 h)

same_digits : (j k n : ℕ) → n ≤ j → n ≤ k → digits_in j n ≡ digits_in k n
same_digits zero k n g h = one_digit zero n (omega arith) ∙ sym (one_digit k n (omega arith))
same_digits (suc j) zero n g h = one_digit (suc j) n (omega arith) ∙ sym (one_digit zero n (omega arith))
same_digits (suc j) (suc k) n g h = by (ltb n 10) refl (same_digits j k (n / 10))
  where
    by : (t : Bool) → ltb n 10 ≡ t → (n / 10 ≤ j → n / 10 ≤ k → digits_in j (n / 10) ≡ digits_in k (n / 10)) → digits_in (suc j) n ≡ digits_in (suc k) n
    by true e f = one_digit (suc j) n (ltb-true n 10 e) ∙ sym (one_digit (suc k) n (ltb-true n 10 e))
    by false e f =
        let l : 10 ≤ n = ltb-false n 10 e in
        more_digits j n l ∙ (ap (λ (xs : List ℕ). xs ++ ((48 + n % 10) ∷ [])) (f (omega arith) (omega arith)) ∙ sym (more_digits k n l))

-- any other has the digits of its tens, and one more
pub digits_more : (n : ℕ) → 10 ≤ n → digits n ≡ digits (n / 10) ++ ((48 + n % 10) ∷ [])
unfolding digits
digits_more zero h = absurd (omega arith)
digits_more (suc n) h =
    more_digits n (suc n) h ∙ ap (λ (xs : List ℕ). xs ++ ((48 + suc n % 10) ∷ [])) (same_digits n (suc n / 10) (suc n / 10) (omega arith) (omega arith))

-- below 100 these are two digits, and from there on those of its hundreds, and two more
pub digits_two : (n : ℕ) → 10 ≤ n → n < 100 → digits n ≡ two_digits n
digits_two n h l =
    digits_more n h ∙ ap (λ (xs : List ℕ). xs ++ ((48 + n % 10) ∷ [])) (digits_one (n / 10) (omega arith))

pub digits_hundreds : (n : ℕ) → 100 ≤ n → digits n ≡ digits (n / 100) ++ two_digits (n % 100)
digits_hundreds n h =
    let last : n % 10 ≡ n % 100 % 10 = omega arith in
    let both : n % 100 ≡ (n / 10 % 10) * 10 + n % 10 = mod-mul n {m = 10} {c = 10} (omega arith) (omega arith) in
    let ten : n / 10 % 10 ≡ n % 100 / 10 = omega arith in
    let hundreds : n / 10 / 10 ≡ n / 100 = omega arith in
    digits_more n (omega arith)
    ∙ rw (digits_more (n / 10) (omega arith), append_assoc, last, ten, hundreds)
