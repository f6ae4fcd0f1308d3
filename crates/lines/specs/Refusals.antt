-- Document 01's refusals of a text, and the answer of a reader.
use Rattle.std.specs.Prelude.{ℕ, ◌+◌, Bool, ◌||◌, cond, List, eqb, ltb, length, Result, Ok, Err}
use Rattle.text.specs.Text.{fault_number}
use Rattle.lines.specs.Lines.{Reading}
use Rattle.lines.specs.declared.TextRefusal.{TextRefusal}
use Rattle.text.specs.declared.TextFault.{TextFault}
use Rattle.text.specs.declared.TextFault.TheVariants.{NotDue, BadValue, OfferOrder, TextEnds}

-- 01, table of refusals, the rows checked at "text": the number of each case
abbrev pub text_number : TextRefusal → ℕ
text_number r = fault_number r.fault

-- the fault of a number, and the refusal of a number and a line
abbrev pub fault_of : ℕ → TextFault
fault_of number = cond (eqb number 1) NotDue (cond (eqb number 2) BadValue (cond (eqb number 3) OfferOrder TextEnds))

abbrev pub text_refusal : ℕ → ℕ → TextRefusal
text_refusal number line = record { fault = fault_of number; line = line }

-- 01, refusal 4, size and start: "over 65,536 bytes, a start past its end"
abbrev pub bad_start : List ℕ → ℕ → Bool
bad_start text start = ltb 65536 (length text) || ltb (length text) start

-- 01, below the table: "for 1 to 4 the line (0 for size or start; ..)"
abbrev pub no_start : TextRefusal
no_start = record { fault = TextEnds; line = 0 }

-- 01, Book and journal, below the table: "Reading stops after the `end` line and gives the place after it"; here of a reading that began
-- at `start`, whose lines are counted from 1 there. A refusal has the number of the line due
abbrev pub answer_of : ℕ → Result Reading TextRefusal → Result ℕ TextRefusal
answer_of start (Ok s) = Ok (start + s.at)
answer_of start (Err r) = Err r
