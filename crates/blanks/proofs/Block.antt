-- A unit's values, each that of its line, make the unit of the block.
-- Assumes nothing.
use mathlib.Core.Path.{◌≡◌}
use mathlib.Core.List.{List}
use Prim.Native.Nat.{ℕ, ◌+◌}
use Rattle.std.specs.Prelude.{Option}
use Rattle.finite.specs.Finite.{tabulate}
use Rattle.energy.specs.declared.GrossKwh.{GrossKwh}
use Rattle.energy.specs.declared.NetKwh.{NetKwh}
use Rattle.text.specs.declared.Line.{Line}
use Rattle.record.specs.declared.Span.{Span}
use Rattle.record.specs.declared.UnitRecord.{UnitRecord}
use Rattle.record_lines.specs.Rows.{declared_line, real_line, test_line, deviation_line, power_line, reading_line, since_line, repair_line, spans_line}
use Rattle.blanks.specs.Blanks.{value_or, reading_by, span_by, spans_by, unit_by}
use Rattle.record_lines.specs.Rows.{block_line}

module _ (f : ℕ → Line) (j : ℕ) (monthly : GrossKwh) where
  pub unit_made : (declared real test deviation power : ℕ) (reading : Option NetKwh) (since repair spans : ℕ) (span : List Span)
      → declared ≡ value_or monthly.0 (f (block_line j + declared_line))
      → real ≡ value_or 0 (f (block_line j + real_line))
      → test ≡ value_or 0 (f (block_line j + test_line))
      → deviation ≡ value_or 0 (f (block_line j + deviation_line))
      → power ≡ value_or monthly.0 (f (block_line j + power_line))
      → reading ≡ reading_by (f (block_line j + reading_line))
      → since ≡ value_or 1 (f (block_line j + since_line))
      → repair ≡ value_or 0 (f (block_line j + repair_line))
      → spans ≡ spans_by (f (block_line j + spans_line))
      → span ≡ tabulate 6 (span_by (f (block_line j + spans_line)) (record { 0 = declared }))
      → ◌≡◌ {A = UnitRecord}
      (record {
        declared = record { 0 = declared };
        real = record { 0 = real };
        test = record { 0 = test };
        deviation = record { 0 = deviation };
        power = record { 0 = power };
        reading = reading;
        since = since;
        repair = repair;
        spans = spans;
        span = span;
      })
      (unit_by f j monthly)
  unfolding unit_by
  unit_made declared real test deviation power reading since repair spans span a b c d e g h i k l =
      rw (l, a, b, c, d, e, g, h, i, k)
