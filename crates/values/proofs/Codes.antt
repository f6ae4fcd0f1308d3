-- The fault of a value is 2 or 3: each way out of its reading is a bad value or a broken order, or a line.
-- Assumes nothing.
use mathlib.Core.Bool.{Bool, true, false, cond}
use mathlib.Core.List.{List}
use Prim.Native.Nat.{ℕ, zero, suc, ◌/◌, ◌≤◌}
use native.Mathlib.Omega.{arith}
use lib.Dec.{ltb, eqb}
use lib.ListN.{length, get_or, take, drop}
use Rattle.std.specs.Prelude.{Option, Some, None, Result, Ok, Err, IfErr}
use Rattle.text.specs.declared.TextFault.{TextFault}
use Rattle.text.specs.declared.TextFault.TheVariants.{BadValue, OfferOrder}
use Rattle.text.specs.declared.Row.{Row}
use Rattle.text.specs.declared.Line.{Line}
use Rattle.text.specs.Text.{fault_number, seek, word_is, number_in}
use Rattle.text.specs.Rows.{no_line}
use Rattle.values.specs.Values.{added, given, last, part_next, mark_due, numbers, rising, checked, value_of}

abbrev pub TwoOrThree : TextFault → Type 0
TwoOrThree f = (2 ≤ fault_number f) × (fault_number f ≤ 3)

bad : TwoOrThree BadValue
bad = (omega arith, omega arith)

broken : TwoOrThree OfferOrder
broken = (omega arith, omega arith)

-- the fault of a line that is chosen by a test
chosen : (t : Bool) (x y : Result Line TextFault) → IfErr x TwoOrThree → IfErr y TwoOrThree → IfErr (cond t x y) TwoOrThree
chosen true x y h k = h
chosen false x y h k = k

given_fault : (r : Option ℕ) (f : ℕ → Result Line TextFault) → ((n : ℕ) → IfErr (f n) TwoOrThree) → IfErr (given r f) TwoOrThree
given_fault (Some n) f h = h n
given_fault None f h = bad

module _ (low high : List ℕ) (parts : ℕ) where
  numbers_fault : (left p : ℕ) (s : List ℕ) (l : Line) → IfErr (numbers low high parts left p s l) TwoOrThree
  unfolding numbers
  numbers_fault zero p s l = bad
  numbers_fault (suc left) p s l =
      given_fault (number_in (get_or low p 0) (get_or high p 0) (take (seek 58 44 s) s)) _
      (λ n. chosen (ltb (seek 58 44 s) (length s)) _ _
      (chosen (eqb (get_or s (seek 58 44 s) 0) (mark_due parts p)) _ _ (numbers_fault left (part_next parts p) (drop (suc (seek 58 44 s)) s) (added l n)) bad)
      (chosen (last parts p) (Ok (added l n)) _ tt bad))

checked_fault : (row : Row) (r : Result Line TextFault) → IfErr r TwoOrThree → IfErr (checked row r) TwoOrThree
checked_fault row (Err f) h = h
checked_fault row (Ok l) h = chosen row.order _ (Ok l) (chosen (rising l.number 0 (l.count / 2) 0 0) (Ok l) _ tt broken) tt

pub value_code : (row : Row) (s : List ℕ) → IfErr (value_of row s) (λ f. (2 ≤ fault_number f) × (fault_number f ≤ 3))
unfolding value_of
value_code row s =
    chosen (eqb row.parts 0) _ _ (chosen (word_is s row.word) (Ok no_line) _ tt bad)
    (chosen (eqb (length s) 0) _ _ (chosen row.blank (Ok no_line) _ tt bad)
    (checked_fault row _ (numbers_fault row.low row.high row.parts row.most 0 s no_line)))
