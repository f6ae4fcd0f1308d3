-- A record that was read keeps its ranges: each of its values stands in a line that keeps to its row, or is what blank means there.
-- Assumes nothing.
use mathlib.Core.Path.{◌≡◌, refl, subst, ap}
use mathlib.Core.Bool.{Bool, true, false, cond}
use mathlib.Core.List.{List}
use Prim.Native.Nat.{ℕ, ◌+◌, ◌≤◌, ◌<◌}
use native.Mathlib.Omega.{arith}
use borrow.Author.Tests.{eqb-false}
use lib.Dec.{eqb}
use Rattle.std.specs.Prelude.{Some, None}
use Rattle.std.specs.Option.{ForSome}
use lib.Count.{ones}
use lib.ListN.{get_or}
use Rattle.finite.proofs.Tables.{get_d_tabulate}
use Rattle.energy.specs.declared.GrossKwh.{GrossKwh}
use Rattle.energy.specs.declared.NetKwh.{NetKwh}
use Rattle.units.specs.Units.{member_at, members}
use Rattle.units.proofs.Laws.{place_lt}
use Rattle.text.specs.Rows.{word, blank_row}
use Rattle.text.specs.declared.Row.{Row}
use Rattle.text.specs.declared.Line.{Line}
use Rattle.lines.specs.Lines.{line_of, number_of}
use Rattle.lines.proofs.Reading.{Keeps}
use Rattle.lines.proofs.Numbers.{number_in, blank_in}
use Rattle.record.specs.declared.UnitRecord.{UnitRecord}
use Rattle.record.specs.Limits.{last_hour, most_plant_kwh, most_kwh, most_since, most_spans}
use Rattle.record_lines.specs.Rows.{head_rows, unit_rows, end_row, head_lines, unit_lines, hour_line, net_line, reverse_line, declared_line, real_line, test_line, deviation_line, power_line, reading_line, since_line, repair_line, spans_line}
use Rattle.record.specs.Empty.{no_span}
use Rattle.blanks.specs.Blanks.{value_or, reading_by, declared_by, span_by, unit_by, place_by}
use Rattle.record_lines.specs.Rows.{block_line}
use Rattle.record_text.specs.Hour.{record_by}
use Rattle.record.specs.Spans.{past_unit}
use Rattle.record_lines.proofs.Facts.{Whole}
use Rattle.record_text.proofs.Same.{block_read}
use Rattle.record.specs.InRange.{UnitInRange, InRange}
use Rattle.blanks.proofs.SpanRanges.{spans_in, span_in_lem}

-- the number of a line, or what blank means there
value_in : (key : List ℕ) (low high b : ℕ) (l : Line) → low ≤ b → b ≤ high → Keeps (blank_row key low high) l
    → (low ≤ value_or b l) × (value_or b l ≤ high)
value_in key low high b l h k keeps = by (eqb l.count 0) refl
  where
    by : (t : Bool) → eqb l.count 0 ≡ t → (low ≤ cond t b (number_of l)) × (cond t b (number_of l) ≤ high)
    by true e = (h, k)
    by false e = let n : l.count ≡ 0 → ⊥ = eqb-false _ _ e in blank_in key low high l keeps (omega arith)

-- a reading is the number of its line
reading_read : (l : Line) → value_or 0 l ≤ most_kwh → ForSome (reading_by l) (λ n. n.0 ≤ most_kwh)
reading_read l h = by (eqb l.count 0) h
  where
    read : NetKwh
    read = record { 0 = number_of l }

    by : (t : Bool) → cond t 0 (number_of l) ≤ most_kwh → ForSome (cond t None (Some read)) (λ n. n.0 ≤ most_kwh)
    by true h = λ n e. cc
    by false h = λ n e. let same : read ≡ n = cc in omega (arith, ap (λ (k : NetKwh). k.0) same)

module _ (n : ℕ) (lines : List Line) (whole : Whole n lines) where
  head_value : (k : ℕ) (key : List ℕ) (high : ℕ) → k < head_lines → get_or head_rows k end_row ≡ blank_row key 0 high → value_or 0 (line_of lines k) ≤ high
  head_value k key high h e =
      (value_in key 0 high 0 (line_of lines k) (omega arith) (omega arith) (subst (λ (r : Row). Keeps r (line_of lines k)) e (whole.head k h))).1

  block_value : (j i : ℕ) (key : List ℕ) (low high b : ℕ) → j < n → i < unit_lines → get_or unit_rows i end_row ≡ blank_row key low high → low ≤ b → b ≤ high
      → (low ≤ value_or b (line_of lines (block_line j + i))) × (value_or b (line_of lines (block_line j + i)) ≤ high)
  block_value j i key low high b h l e p q =
      value_in key low high b (line_of lines (block_line j + i)) p q (subst (λ (r : Row). Keeps r (line_of lines (block_line j + i))) e (whole.block j i h l))

  module _ (j : ℕ) (h : j < n) (monthly : GrossKwh) (bound : monthly.0 ≤ most_kwh) where
    -- an energy of the block
    kwh : (i : ℕ) (key : List ℕ) → i < unit_lines → get_or unit_rows i end_row ≡ blank_row key 0 most_kwh → value_or 0 (line_of lines (block_line j + i)) ≤ most_kwh
    kwh i key l e = (block_value j i key 0 most_kwh 0 h l e (omega arith) (omega arith)).1

    or_monthly : (i : ℕ) (key : List ℕ) → i < unit_lines → get_or unit_rows i end_row ≡ blank_row key 0 most_kwh
        → value_or monthly.0 (line_of lines (block_line j + i)) ≤ most_kwh
    or_monthly i key l e = (block_value j i key 0 most_kwh monthly.0 h l e (omega arith) bound).1

    unit_read : UnitInRange (unit_by (line_of lines) j monthly)
    unfolding unit_by unit_rows
    unit_read =
        let spans = whole.block j spans_line h (omega arith) in
        let since = block_value j since_line (word "since") 1 most_since 1 h (omega arith) refl (omega arith) (omega arith) in
        let declared = or_monthly declared_line (word "declared") (omega arith) refl in
        record {
          declared = declared;
          real = kwh real_line (word "real") (omega arith) refl;
          test = kwh test_line (word "test") (omega arith) refl;
          deviation = kwh deviation_line (word "deviation") (omega arith) refl;
          power = or_monthly power_line (word "power") (omega arith) refl;
          reading = reading_read (line_of lines (block_line j + reading_line)) (kwh reading_line (word "reading") (omega arith) refl);
          since_least = since.0;
          since_most = since.1;
          repair = (block_value j repair_line (word "repair") 0 1 0 h (omega arith) refl (omega arith) (omega arith)).1;
          spans_least = (spans_in (line_of lines (block_line j + spans_line)) spans).0;
          spans_most = (spans_in (line_of lines (block_line j + spans_line)) spans).1;
          span = λ i b.
              rw (get_d_tabulate most_spans (span_by (line_of lines (block_line j + spans_line)) (declared_by (line_of lines) j monthly)) i no_span (omega (arith, (spans_in (line_of lines (block_line j + spans_line)) spans).1)))
              (span_in_lem (line_of lines (block_line j + spans_line)) spans (declared_by (line_of lines) j monthly) declared i b);
        }

pub record_read : (units : ℕ) (lines : List Line) (monthly : List GrossKwh) → units < 256
    → ((k : ℕ) → member_at units k ≡ true → (get_or monthly k (record { 0 = 0 })).0 ≤ most_kwh) → Whole (ones units) lines
    → InRange units (record_by (line_of lines) units monthly)
unfolding record_by head_rows
record_read units lines monthly small bound whole =
    let hour = number_in (word "hour") 1 last_hour (line_of lines hour_line) (whole.head hour_line (omega arith)) in
    let at : ℕ → UnitRecord = place_by (line_of lines) units monthly in
    record {
      hour_least = hour.0;
      hour_most = hour.1;
      net = head_value (ones units) lines whole net_line (word "net") most_plant_kwh (omega arith) refl;
      reverse = head_value (ones units) lines whole reverse_line (word "reverse") most_plant_kwh (omega arith) refl;
      unit = λ k m.
          rw (get_d_tabulate 8 at k past_unit (place_lt units k m), m)
          (unit_read (ones units) lines whole (members units k) (block_read units k (omega arith) m) (get_or monthly k (record { 0 = 0 })) (bound k m));
      outside = λ k h m. rw (get_d_tabulate 8 at k past_unit h, m);
    }
