-- A text read line by line, each line by the row that is due.
use Rattle.std.specs.Prelude.{ℕ, zero, suc, ◌+◌, cond, List, [], ◌∷◌, ◌++◌, length, drop, get_or, Result, Ok, Err}
use Rattle.text.specs.Text.{seek, before, has, value_part, key_is}
use Rattle.text.specs.Rows.{no_line}
use Rattle.values.specs.Values.{value_of}
use Rattle.text.specs.declared.Row.{Row}
use Rattle.text.specs.declared.Line.{Line}
use Rattle.text.specs.declared.TextFault.{TextFault}
use Rattle.text.specs.declared.TextFault.TheVariants.{NotDue, TextEnds}
use Rattle.lines.specs.declared.TextRefusal.{TextRefusal}

-- 01, Book and journal, below the table: "the first bad line by 4, 1, 2, 3". A line without its LF, or its fault: not due where it is not
-- key=value with the key due, a bad value or a broken order by its value
abbrev pub line_by : List ℕ → Row → Result Line TextFault
line_by line row = cond (key_is line row.key) (value_of row (value_part line)) (Err NotDue)

-- the line at a place; the text may end inside it or before it
unfoldable pub line_at : List ℕ → ℕ → Row → Result Line TextFault
line_at text at row = let rest = drop at text in cond (has 10 rest) (line_by (before 10 rest) row) (Err TextEnds)

-- the place after the line that begins at a place: lines are ended by LF
abbrev pub place_after : List ℕ → ℕ → ℕ
place_after text at = at + seek 10 10 (drop at text) + 1

-- how far a text is read: the place of the line due, and the lines read before it
pub record Reading : Type 0 where
  pub at : ℕ
  pub lines : List Line

abbrev pub begin : Reading
begin = record { at = 0; lines = [] }

-- 01, Book and journal, below the table: "for 1 to 4 the line (..; a missing line has the next number)": a bad line's number is that of the
-- line due
abbrev pub refused_at : Reading → TextFault → TextRefusal
refused_at s f = record { fault = f; line = length s.lines + 1 }

-- a good line is taken in, a bad one ends the reading where it stands
abbrev pub accept : Reading → ℕ → Result Line TextFault → Result Reading TextRefusal
accept s next (Ok l) = Ok (record { at = next; lines = s.lines ++ (l ∷ []) })
accept s next (Err f) = Err (refused_at s f)

unfoldable pub read_line : List ℕ → Row → Reading → Result Reading TextRefusal
read_line text row s = accept s (place_after text s.at) (line_at text s.at row)

-- what is read after what was read, unless that is refused
abbrev pub further : Result Reading TextRefusal → (Reading → Result Reading TextRefusal) → Result Reading TextRefusal
further (Ok s) more = more s
further (Err r) more = Err r

-- n lines more, each by the row that is due after those before it
unfoldable pub read_by : List ℕ → (List Line → Row) → ℕ → Reading → Result Reading TextRefusal
read_by text due zero s = Ok s
read_by text due (suc n) s = further (read_by text due n s) (λ t. read_line text (due t.lines) t)

-- line k of those read, and its first number
abbrev pub line_of : List Line → ℕ → Line
line_of lines k = get_or lines k no_line

abbrev pub number_of : Line → ℕ
number_of l = get_or l.number 0 0
