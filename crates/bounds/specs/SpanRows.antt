-- The ranges of a span's numbers (01, Hour record: "minutes 1–60, kind 1–7 (..), cause 0 none, 1 environment, 2 frequency control, capability
-- gross 0–10^6"; 02, wish 1: "Spans admit kind 8") as a table: values of a `spans` line, accepted at a bound and refused with 2 one past it.
use Rattle.std.specs.Prelude.{ℕ, Bool, true, ◌&&◌, List, [], ◌∷◌, eqb, Result, Ok, Err}
use Prim.Native.String.{String}
use Rattle.text.specs.Bytes.{bytes}
use Rattle.text.specs.Text.{fault_number}
use Rattle.text.specs.declared.Line.{Line}
use Rattle.text.specs.declared.TextFault.{TextFault}
use Rattle.values.specs.Values.{value_of}
use Rattle.record_lines.specs.Rows.{spans_row}

-- the line's value, and the number that it is refused with; 0: accepted
pub data SpanRow : Type 0 where
  gives : (number : ℕ) → String → SpanRow

-- document 01's number of a value, 0 where it is accepted
abbrev pub number_of : Result Line TextFault → ℕ
number_of (Ok l) = 0
number_of (Err f) = fault_number f

-- by the row that the reader goes by
unfoldable pub right : SpanRow → Bool
right (gives number value) = eqb (number_of (value_of spans_row (bytes value))) number

unfoldable pub all_right : List SpanRow → Bool
all_right [] = true
all_right (r ∷ rs) = right r && all_right rs

unfoldable pub span_rows : List SpanRow
span_rows =
    gives 0 "1:1:0:0"
    ∷ gives 2 "0:1:0:0"
    ∷ gives 2 "1:0:0:0"
    ∷ gives 0 "60:8:2:1000000"
    ∷ gives 2 "61:8:2:1000000"
    ∷ gives 2 "60:9:2:1000000"
    ∷ gives 2 "60:8:3:1000000"
    ∷ gives 2 "60:8:2:1000001"
    ∷ []
