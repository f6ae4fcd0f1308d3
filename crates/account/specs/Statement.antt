-- What the program prints of day.txt (01, Program and marked figures).
use Rattle.std.specs.Prelude.{Result, Ok, Err}
use Rattle.lines.specs.declared.TextRefusal.{TextRefusal}
use Rattle.std.specs.Prelude.{ℕ, List}
use Rattle.lines.specs.Refusals.{text_number}
use Rattle.sheet.specs.declared.Sheet.{Sheet}
use Rattle.state.specs.declared.Book.{Book}
use Rattle.sheet_text.specs.Day.{read_sheet}
use Rattle.listing.specs.Listing.{settled_lines, refusal_line}
use Rattle.account.specs.declared.Day.{Day}
use Rattle.account.specs.Day.{day_number, Pending, day_from}

-- "At the end it prints settled hours ascending, a line per unit; on the first refusal it prints only `refused=` and the number."
abbrev pub lines_with : (units : ℕ) → Book → Pending → List ℕ
lines_with units b (Ok x) = settled_lines units b
lines_with units b (Err r) = refusal_line (day_number r)

unfoldable pub day_lines : (units : ℕ) → Day → List ℕ
day_lines units d = lines_with units d.book d.due

-- the day behind a sheet that was read
abbrev pub lines_by : List ℕ → Sheet → Result ℕ TextRefusal → List ℕ
lines_by text s (Ok place) = day_lines s.units (day_from s text place)
lines_by text s (Err r) = refusal_line (text_number r)

-- "`statement` reads day.txt (absent: empty): sheet, then (..)"
unfoldable pub statement_of : List ℕ → List ℕ
statement_of text = let r = read_sheet text 0 in lines_by text r.sheet r.answer
