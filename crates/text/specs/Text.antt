-- Bytes of a line, its key and value, and decimal numbers. 10 is LF, 61 is '=', 48 to 57 are the digits.
use Rattle.std.specs.Prelude.{ℕ, suc, ◌+◌, ◌*◌, ◌-◌, Bool, false, cond, List, [], ◌∷◌, ltb, eqb, length, take, drop, get_or}
use Rattle.std.specs.Prelude.{Option, Some, None}
use Rattle.text.specs.declared.Part.{Part}
use Rattle.text.specs.declared.TextFault.{TextFault}
use Rattle.text.specs.declared.TextFault.TheVariants.{NotDue, BadValue, OfferOrder, TextEnds}

-- 01, table of refusals, the rows checked at "text": the number of each case
abbrev pub fault_number : TextFault → ℕ
fault_number NotDue = 1
fault_number BadValue = 2
fault_number OfferOrder = 3
fault_number TextEnds = 4

-- how many bytes stand before the first that is a or b: all where there is none
unfoldable pub seek : ℕ → ℕ → List ℕ → ℕ
seek a b [] = 0
seek a b (x ∷ xs) = cond (eqb x a) 0 (cond (eqb x b) 0 (suc (seek a b xs)))

-- what stands before and after the first byte m
abbrev pub before : ℕ → List ℕ → List ℕ
before m s = take (seek m m s) s

abbrev pub after : ℕ → List ℕ → List ℕ
after m s = drop (suc (seek m m s)) s

abbrev pub has : ℕ → List ℕ → Bool
has m s = ltb (seek m m s) (length s)

-- 01, Energies and sheet: "In each line, the value is the part of the line after its first `=`."
abbrev pub value_part : List ℕ → List ℕ
value_part line = after 61 line

-- whether s is the word w; a word is held with '=' after its last byte
unfoldable pub word_is : List ℕ → List ℕ → Bool
word_is s [] = false
word_is [] (y ∷ ys) = eqb y 61
word_is (x ∷ xs) (y ∷ ys) = cond (eqb y 61) false (cond (eqb x y) (word_is xs ys) false)

-- 01, refusal 1: whether the line is key=value with the key due
abbrev pub key_is : List ℕ → List ℕ → Bool
key_is line key = cond (has 61 line) (word_is (before 61 line) key) false

-- a number, where it is at most high
abbrev pub within : ℕ → ℕ → Option ℕ
within high n = cond (ltb high n) None (Some n)

-- the number n with further digits behind it, as long as it is at most high
unfoldable pub digits : ℕ → ℕ → List ℕ → Option ℕ
digits high n [] = Some n
digits high n (x ∷ xs) =
    cond (ltb x 48) None
    (cond (ltb 57 x) None
    (cond (ltb high (n * 10 + (x - 48))) None (digits high (n * 10 + (x - 48)) xs)))

abbrev pub at_least : ℕ → Option ℕ → Option ℕ
at_least low (Some n) = cond (ltb n low) None (Some n)
at_least low None = None

-- a 0 with digits behind it
unfoldable pub leading_zero : List ℕ → Bool
leading_zero s = cond (ltb (length s) 2) false (eqb (get_or s 0 0) 48)

-- 01, Energies and sheet: "Numbers are decimal digits, no leading zero", here from low to high
unfoldable pub number_in : ℕ → ℕ → List ℕ → Option ℕ
number_in low high s =
    cond (eqb (length s) 0) None (cond (leading_zero s) None (at_least low (digits high 0 s)))

-- a number with the place where it ends
abbrev pub part_with : ℕ → Option ℕ → Option Part
part_with end (Some n) = Some (record { number = n; end = end })
part_with end None = None
