-- The lines due in a day sheet, in their order (01, Energies and sheet). A new kind of line is a new row here.
use Rattle.std.specs.Prelude.{ℕ, ◌+◌, ◌*◌, ◌-◌, ◌%◌, true, false, cond, Result, List, [], ◌∷◌, ◌++◌, ltb, length, get_or, replicate}
use Rattle.std.specs.Int.Count.{ones}
use Rattle.text.specs.Rows.{word, limits, number_row, word_row}
use Rattle.text.specs.declared.Row.{Row}
use Rattle.text.specs.declared.Line.{Line}
use Rattle.lines.specs.declared.TextRefusal.{TextRefusal}
use Rattle.lines.specs.Lines.{Reading, begin, further, read_by, line_of, number_of}
use Rattle.sheet.specs.Limits.{last_month, last_day, most_loss, most_own, most_ceiling, most_bar, most_cpf, most_units, most_kwh, most_quantity, most_price}

-- "`month` 1–12, `day` (..), `loss` L, `ceiling` (..), `bar` (..), `cpf` 24 lines (..), `units` 1–255"
unfoldable pub head_rows : ℕ → List Row
head_rows month =
    number_row (word "month") 1 last_month
    ∷ number_row (word "day") 1 (last_day month)
    ∷ number_row (word "loss") 0 most_loss
    ∷ number_row (word "ceiling") 0 most_ceiling
    ∷ number_row (word "bar") 0 most_bar
    ∷ (replicate 24 (number_row (word "cpf") 0 most_cpf) ++ (number_row (word "units") 1 most_units ∷ []))

-- "An offer is 1 to 10 pairs quantity:price joined by commas: cumulative hub kWh 1–10^6, strictly rising; Rial/MWh 0–10^7, never falling."
unfoldable pub offer_row : Row
offer_row =
    record {
      key = word "offer";
      word = word "";
      blank = false;
      order = true;
      parts = 2;
      most = 20;
      low = limits 1 0 0 0;
      high = limits most_quantity most_price 0 0;
    }

-- "then per unit ascending `own` ρ, `nominal` 1–10^6 kWh, `monthly` 0–10^6 kWh gross, and 24 lines `offer`"
unfoldable pub unit_rows : List Row
unit_rows =
    number_row (word "own") 0 most_own
    ∷ number_row (word "nominal") 1 most_kwh
    ∷ number_row (word "monthly") 0 most_kwh
    ∷ replicate 24 offer_row

-- "last `end=sheet`"
unfoldable pub end_row : Row
end_row = word_row (word "end") (word "sheet")

-- how many lines the head and a unit's block have
abbrev pub head_lines : ℕ
head_lines = 30

abbrev pub unit_lines : ℕ
unit_lines = 27

-- where the values stand among the lines, counted from 0
abbrev pub loss_line : ℕ
loss_line = 2

abbrev pub ceiling_line : ℕ
ceiling_line = 3

abbrev pub bar_line : ℕ
bar_line = 4

abbrev pub cpf_line : ℕ
cpf_line = 5

abbrev pub units_line : ℕ
units_line = 29

-- the first line of block j of the units
abbrev pub block_line : ℕ → ℕ
block_line j = head_lines + unit_lines * j

-- the row due after k lines, in a plant of n units
unfoldable pub row_at : ℕ → ℕ → ℕ → Row
row_at month n k =
    cond (ltb k head_lines) (get_or (head_rows month) k end_row)
    (cond (ltb k (head_lines + unit_lines * n)) (get_or unit_rows ((k - head_lines) % unit_lines) end_row) end_row)

-- 01, Energies and sheet: "the number of units is the number of ones in it"
abbrev pub units_read : List Line → ℕ
units_read lines = ones (number_of (line_of lines units_line))

-- the row due after the lines read so far
abbrev pub due_row : List Line → Row
due_row lines = row_at (number_of (line_of lines 0)) (units_read lines) (length lines)

-- the lines of a sheet that begins where the text does: the head, then a block for each unit and the end
unfoldable pub read_lines : List ℕ → Result Reading TextRefusal
read_lines text =
    further (read_by text due_row head_lines begin) (λ head. read_by text due_row (unit_lines * units_read head.lines + 1) head)
