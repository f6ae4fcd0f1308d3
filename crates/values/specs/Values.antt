-- A value is read by its row. 58 is ':', 44 is ','.
use Rattle.std.specs.Prelude.{ℕ, zero, suc, ◌+◌, ◌/◌, Bool, true, false, cond, List, ltb, eqb, length, take, drop, get_or, set, Option, Some, None, Result, Ok, Err}
use Rattle.text.specs.Text.{seek, word_is, number_in}
use Rattle.text.specs.Rows.{no_line}
use Rattle.text.specs.declared.Row.{Row}
use Rattle.text.specs.declared.Line.{Line}
use Rattle.text.specs.declared.TextFault.{TextFault}
use Rattle.text.specs.declared.TextFault.TheVariants.{BadValue, OfferOrder}

-- what was read into a line that was lent: the line, or the fault alone
abbrev pub into : Result (Unit {0}) TextFault → Line → Result Line TextFault
into (Ok done) l = Ok l
into (Err f) l = Err f

-- one number more
abbrev pub added : Line → ℕ → Line
added l n = record { count = l.count + 1; number = set l.number l.count n }

-- 01, refusal 2: a malformed number or one out of range
abbrev pub given : Option ℕ → (ℕ → Result Line TextFault) → Result Line TextFault
given (Some n) f = f n
given None f = Err BadValue

-- whether part p is the last of its group; the part after it; the mark due after it
abbrev pub last : ℕ → ℕ → Bool
last parts p = eqb (p + 1) parts

abbrev pub part_next : ℕ → ℕ → ℕ
part_next parts p = cond (last parts p) 0 (p + 1)

abbrev pub mark_due : ℕ → ℕ → ℕ
mark_due parts p = cond (last parts p) 44 58

-- 01, Energies and sheet: "pairs quantity:price joined by commas"; Hour record: "minutes:kind:cause:capability joined by commas".
-- The numbers of a value from part p of a group on, of which `left` may still come
unfoldable pub numbers : List ℕ → List ℕ → ℕ → ℕ → ℕ → List ℕ → Line → Result Line TextFault
numbers low high parts zero p s l = Err BadValue
numbers low high parts (suc left) p s l =
    given (number_in (get_or low p 0) (get_or high p 0) (take (seek 58 44 s) s)) (λ n.
    cond (ltb (seek 58 44 s) (length s))
    (cond (eqb (get_or s (seek 58 44 s) 0) (mark_due parts p))
    (numbers low high parts left (part_next parts p) (drop (suc (seek 58 44 s)) s) (added l n))
    (Err BadValue))
    (cond (last parts p) (Ok (added l n)) (Err BadValue)))

-- 01, Energies and sheet: of an offer's pairs the first numbers are "strictly rising", the second "never falling";
-- here the pairs from a place on, after a pair of q and p
unfoldable pub rising : List ℕ → ℕ → ℕ → ℕ → ℕ → Bool
rising l at zero q p = true
rising l at (suc left) q p =
    cond (ltb q (get_or l at 0))
    (cond (ltb (get_or l (at + 1) 0) p) false (rising l (at + 2) left (get_or l at 0) (get_or l (at + 1) 0)))
    false

-- 01, refusal 3: offer order broken
abbrev pub ordered : Row → Line → Result Line TextFault
ordered row l = cond row.order (cond (rising l.number 0 (l.count / 2) 0 0) (Ok l) (Err OfferOrder)) (Ok l)

abbrev pub checked : Row → Result Line TextFault → Result Line TextFault
checked row (Ok l) = ordered row l
checked row (Err f) = Err f

-- a value by its row: a word, blank, or numbers in their order
unfoldable pub value_of : Row → List ℕ → Result Line TextFault
value_of row s =
    cond (eqb row.parts 0) (cond (word_is s row.word) (Ok no_line) (Err BadValue))
    (cond (eqb (length s) 0) (cond row.blank (Ok no_line) (Err BadValue))
    (checked row (numbers row.low row.high row.parts row.most 0 s no_line)))
