-- What the lines of a unit say, and what blank means there (01, Hour record).
use Rattle.std.specs.Prelude.{ℕ, ◌+◌, ◌*◌, ◌/◌, Bool, cond, Option, Some, None, List, eqb, get_or}
use Rattle.finite.specs.Finite.{tabulate}
use Rattle.energy.specs.declared.GrossKwh.{GrossKwh}
use Rattle.energy.specs.declared.NetKwh.{NetKwh}
use Rattle.units.specs.Units.{member_at, members}
use Rattle.text.specs.declared.Line.{Line}
use Rattle.lines.specs.Lines.{number_of}
use Rattle.record.specs.declared.Span.{Span}
use Rattle.record.specs.declared.UnitRecord.{UnitRecord}
use Rattle.record.specs.Limits.{most_spans, hour_minutes}
use Rattle.record.specs.Empty.{no_span, no_unit}
use Rattle.record_lines.specs.Rows.{declared_line, real_line, test_line, deviation_line, power_line, reading_line, since_line, repair_line, spans_line, block_line}

-- whether the line is blank
abbrev pub blank : Line → Bool
blank l = eqb l.count 0

-- a line that is not blank
abbrev pub given : Line → Option Line
given l = cond (blank l) None (Some l)

-- "Blank means 0 (..), except: (..)": the number of a line, or what blank means there
abbrev pub value_or : ℕ → Line → ℕ
value_or b l = cond (blank l) b (number_of l)

-- "`reading` blank = unmeasured"
abbrev pub reading_by : Line → Option NetKwh
reading_by l = cond (blank l) None (Some (record { 0 = number_of l }))

-- "minutes:kind:cause:capability", the span of place i
abbrev pub span_in : Line → ℕ → Span
span_in l i =
    record {
      minutes = get_or l.number (4 * i) 0;
      kind = get_or l.number (4 * i + 1) 0;
      cause = get_or l.number (4 * i + 2) 0;
      capability = record { 0 = get_or l.number (4 * i + 3) 0 };
    }

-- "`spans` blank = one span 60:1:0:declared"
abbrev pub whole_hour : GrossKwh → Span
whole_hour declared = record { minutes = hour_minutes; kind = 1; cause = 0; capability = declared }

-- the span of place i, and how many there are
unfoldable pub span_by : Line → GrossKwh → ℕ → Span
span_by l declared i = cond (blank l) (cond (eqb i 0) (whole_hour declared) no_span) (span_in l i)

unfoldable pub spans_by : Line → ℕ
spans_by l = cond (blank l) 1 (l.count / 4)

-- "`declared` and `power` blank = `monthly`"
abbrev pub declared_by : (ℕ → Line) → ℕ → GrossKwh → GrossKwh
declared_by f j monthly = record { 0 = value_or monthly.0 (f (block_line j + declared_line)) }

-- block j of the units, for a unit of that `monthly`; f k is line k, from 0. "`since` blank = 1"
unfoldable pub unit_by : (ℕ → Line) → ℕ → GrossKwh → UnitRecord
unit_by f j monthly =
    record {
      declared = declared_by f j monthly;
      real = record { 0 = value_or 0 (f (block_line j + real_line)) };
      test = record { 0 = value_or 0 (f (block_line j + test_line)) };
      deviation = record { 0 = value_or 0 (f (block_line j + deviation_line)) };
      power = record { 0 = value_or monthly.0 (f (block_line j + power_line)) };
      reading = reading_by (f (block_line j + reading_line));
      since = value_or 1 (f (block_line j + since_line));
      repair = value_or 0 (f (block_line j + repair_line));
      spans = spans_by (f (block_line j + spans_line));
      span = tabulate most_spans (span_by (f (block_line j + spans_line)) (declared_by f j monthly));
    }

-- place k is that of unit k + 1; the blocks are those of the plant's units, ascending
abbrev pub place_by : (ℕ → Line) → ℕ → List GrossKwh → ℕ → UnitRecord
place_by f units monthly k =
    cond (member_at units k) (unit_by f (members units k) (get_or monthly k (record { 0 = 0 }))) no_unit
