-- The lines due in an hour record, in their order (01, Hour record). A new kind of line is a new row here, and its line below.
use Rattle.std.specs.Prelude.{ℕ, ◌+◌, ◌*◌, ◌-◌, ◌%◌, true, false, cond, Result, List, [], ◌∷◌, ltb, length, get_or}
use Rattle.text.specs.Rows.{word, limits, number_row, blank_row, word_row}
use Rattle.text.specs.declared.Row.{Row}
use Rattle.text.specs.declared.Line.{Line}
use Rattle.lines.specs.declared.TextRefusal.{TextRefusal}
use Rattle.lines.specs.Lines.{Reading, begin, read_by}
use Rattle.record.specs.Limits.{last_hour, most_plant_kwh, most_kwh, most_since, most_spans, hour_minutes, last_kind, last_cause}

-- "Lines: `hour` 1–24, `net` and `reverse` (gate kWh, 0–8,000,000)"; "`hour` may not be blank"
unfoldable pub head_rows : List Row
head_rows =
    number_row (word "hour") 1 last_hour
    ∷ blank_row (word "net") 0 most_plant_kwh
    ∷ blank_row (word "reverse") 0 most_plant_kwh
    ∷ []

-- "Spans: 1 to 6 of minutes:kind:cause:capability joined by commas; minutes 1–60, kind 1–7 (..), cause 0 none, 1 environment,
-- 2 frequency control, capability gross 0–10^6"; 02, wish 1: "Spans admit kind 8"
unfoldable pub spans_row : Row
spans_row =
    record {
      key = word "spans";
      word = word "";
      blank = true;
      order = false;
      parts = 4;
      most = 4 * most_spans;
      low = limits 1 1 0 0;
      high = limits hour_minutes last_kind last_cause most_kwh;
    }

-- "then per unit ascending `declared` (gross), `real` (net capability), `test` (net criterion), `deviation` (net), `power` (gross, main
-- fuel), `reading` (own net meter), each 0–10^6 kWh; `since` 1–744; `repair` 1 on a repair day (..), else 0; `spans`"
unfoldable pub unit_rows : List Row
unit_rows =
    blank_row (word "declared") 0 most_kwh
    ∷ blank_row (word "real") 0 most_kwh
    ∷ blank_row (word "test") 0 most_kwh
    ∷ blank_row (word "deviation") 0 most_kwh
    ∷ blank_row (word "power") 0 most_kwh
    ∷ blank_row (word "reading") 0 most_kwh
    ∷ blank_row (word "since") 1 most_since
    ∷ blank_row (word "repair") 0 1
    ∷ spans_row
    ∷ []

-- "last `end=hour`"
unfoldable pub end_row : Row
end_row = word_row (word "end") (word "hour")

-- how many lines the head and a unit's block have
abbrev pub head_lines : ℕ
head_lines = 3

abbrev pub unit_lines : ℕ
unit_lines = 9

-- where the values stand among the lines of the head, counted from 0
abbrev pub hour_line : ℕ
hour_line = 0

abbrev pub net_line : ℕ
net_line = 1

abbrev pub reverse_line : ℕ
reverse_line = 2

-- and among the lines of a unit's block
abbrev pub declared_line : ℕ
declared_line = 0

abbrev pub real_line : ℕ
real_line = 1

abbrev pub test_line : ℕ
test_line = 2

abbrev pub deviation_line : ℕ
deviation_line = 3

abbrev pub power_line : ℕ
power_line = 4

abbrev pub reading_line : ℕ
reading_line = 5

abbrev pub since_line : ℕ
since_line = 6

abbrev pub repair_line : ℕ
repair_line = 7

abbrev pub spans_line : ℕ
spans_line = 8

-- the first line of block j of the units
abbrev pub block_line : ℕ → ℕ
block_line j = head_lines + unit_lines * j

-- the row due after k lines, in a plant of n units
unfoldable pub row_at : ℕ → ℕ → Row
row_at n k =
    cond (ltb k head_lines) (get_or head_rows k end_row)
    (cond (ltb k (head_lines + unit_lines * n)) (get_or unit_rows ((k - head_lines) % unit_lines) end_row) end_row)

-- the row due after the lines read so far
abbrev pub due_row : ℕ → List Line → Row
due_row n lines = row_at n (length lines)

-- the lines of a record that begins where the text does: the head, a block for each of n units, the end
unfoldable pub read_lines : List ℕ → ℕ → Result Reading TextRefusal
read_lines text n = read_by text (due_row n) (head_lines + unit_lines * n + 1) begin
