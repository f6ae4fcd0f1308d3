-- Numbers in decimal digits, no leading zero. 48 is '0', 45 is '-'.
use Rattle.std.specs.Prelude.{ℕ, zero, suc, ◌+◌, ◌/◌, ◌%◌, cond, List, [], ◌∷◌, ◌++◌, ltb, ℤ, pos, negsuc}

-- the digits of a number below 10 ^ (left + 1): those of its tens, then the last one
unfoldable pub digits_in : (left n : ℕ) → List ℕ
digits_in zero n = (48 + n) ∷ []
digits_in (suc left) n =
    let longer = digits_in left (n / 10) ++ ((48 + n % 10) ∷ []) in
    cond (ltb n 10) ((48 + n) ∷ []) longer

-- the digits of a number; it is below 10 ^ (n + 1)
unfoldable pub digits : ℕ → List ℕ
digits n = digits_in n n

-- for the code: the tens and the last digit of a number below 100
abbrev pub two_digits : ℕ → List ℕ
two_digits n = (48 + n / 10) ∷ ((48 + n % 10) ∷ [])

-- a number with its sign; a zero has none
unfoldable pub signed : ℤ → List ℕ
signed (pos n) = digits n
signed (negsuc n) = 45 ∷ digits (suc n)

-- the most bytes of a number or a signed one, as numbers are machine words
abbrev pub most_number : ℕ
most_number = 20
