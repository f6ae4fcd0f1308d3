-- The hour record that the lines make, and its reader (01, Hour record).
use Rattle.std.specs.Prelude.{ℕ, cond, List, Result, Ok, Err, drop}
use Rattle.finite.specs.Finite.{tabulate}
use Rattle.energy.specs.declared.GrossKwh.{GrossKwh}
use Rattle.units.specs.Units.{unit_count}
use Rattle.text.specs.declared.Line.{Line}
use Rattle.lines.specs.Lines.{Reading, line_of, number_of}
use Rattle.lines.specs.Refusals.{no_start, bad_start, answer_of}
use Rattle.lines.specs.declared.TextRefusal.{TextRefusal}
use Rattle.record.specs.declared.Record.{Record}
use Rattle.record.specs.Empty.{no_record}
use Rattle.record_lines.specs.Rows.{hour_line, net_line, reverse_line, read_lines}
use Rattle.blanks.specs.Blanks.{value_or, place_by}
use Rattle.record_text.specs.declared.RecordRead.{RecordRead}

-- the lines of the head, and the units by place
unfoldable pub record_by : (ℕ → Line) → ℕ → List GrossKwh → Record
record_by f units monthly =
    record {
      hour = number_of (f hour_line);
      net = record { 0 = value_or 0 (f net_line) };
      reverse = record { 0 = value_or 0 (f reverse_line) };
      unit = tabulate 8 (place_by f units monthly);
    }

-- the record of a reading, none where it is refused
abbrev pub record_of : Result Reading TextRefusal → ℕ → List GrossKwh → Record
record_of (Ok s) units monthly = record_by (line_of s.lines) units monthly
record_of (Err r) units monthly = no_record

-- what a reader tells: the place after what was read, or why the text is refused; and the record, empty where it is
pub record RecordTold : Type 0 where
  pub answer : Result ℕ TextRefusal
  pub read : Record

abbrev pub told : Result RecordRead TextRefusal → RecordTold
told (Ok r) = record { answer = Ok r.place; read = r.read }
told (Err r) = record { answer = Err r; read = no_record }

-- a record from `start` on: 4 for size or start first, then the first bad line; "its line numbers start at 1 there"
unfoldable pub read_record : List ℕ → ℕ → ℕ → List GrossKwh → RecordTold
read_record text start units monthly =
    cond (bad_start text start) (record { answer = Err no_start; read = no_record })
    (let s = read_lines (drop start text) (unit_count units) in
    record { answer = answer_of start s; read = record_of s units monthly })
