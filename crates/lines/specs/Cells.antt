-- How the lines read are kept in a lent list of lines.
use Rattle.std.specs.Prelude.{ℕ, ◌≡◌, ◌<◌, ◌+◌, ◌-◌, List, [], length, get_or, Result, Ok, Err}
use Rattle.text.specs.declared.Row.{Row}
use Rattle.text.specs.declared.Line.{Line}
use Rattle.text.specs.declared.TextFault.{TextFault}
use Rattle.lines.specs.declared.Cursor.{Cursor}
use Rattle.lines.specs.declared.TextRefusal.{TextRefusal}
use Rattle.lines.specs.declared.Stop.{Stop}
use Rattle.lines.specs.Lines.{Reading, read_line, read_by, line_of}

-- line k as the list has it
abbrev pub line_in : List Line → ℕ → Line
line_in kept k = get_or kept k (record { count = 0; number = [] })

-- the list holds the lines, as far as it has room
abbrev pub Kept : List Line → List Line → Type 0
Kept kept lines = (k : ℕ) → k < length lines → k < length kept → line_of lines k ≡ line_in kept k

-- a reading in numbers
abbrev pub cursor_of : Reading → Cursor
cursor_of s = record { at = s.at; lines = length s.lines }

abbrev pub cursors : Result Reading TextRefusal → Result Cursor TextRefusal
cursors (Ok s) = Ok (cursor_of s)
cursors (Err r) = Err r

-- a line that was read into one that was lent, with the place behind it; or the fault alone
abbrev pub lent : Result ℕ TextFault → Line → Result (Line × ℕ) TextFault
lent (Ok next) l = Ok (l, next)
lent (Err f) l = Err f

-- a line with the place behind it
abbrev pub ending : ℕ → Result Line TextFault → Result (Line × ℕ) TextFault
ending next (Ok l) = Ok (l, next)
ending next (Err f) = Err f

-- why a reading is refused, without the place of the refused line
abbrev pub refusals : Result Cursor Stop → Result Cursor TextRefusal
refusals (Ok d) = Ok d
refusals (Err e) = Err e.refusal

-- how many lines are read before a reading ends: all that were due, or those before the refused one
abbrev pub lines_before : Result Cursor Stop → ℕ
lines_before (Ok d) = d.lines
lines_before (Err e) = e.refusal.line - 1

-- a reading that goes on from s and is refused: the place is where the refused line begins, and the list holds the
-- lines before it
pub record Stopped (text : List ℕ) (due : List Line → Row) (s : Reading) (e : Stop) (kept : List Line) : Type 0 where
  pub count : ℕ
  pub reading : Reading
  pub read : read_by text due count s ≡ Ok reading
  pub next : read_line text (due reading.lines) reading ≡ Err e.refusal
  pub line_is : e.refusal.line ≡ length reading.lines + 1
  pub place_is : e.at ≡ reading.at
  pub holds : Kept kept reading.lines
