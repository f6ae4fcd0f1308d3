-- Two ways to look the lines up that agree make the same record: a unit's block lies among the lines read.
-- Assumes nothing.
use mathlib.Core.Path.{◌≡◌, refl}
use mathlib.Core.Bool.{Bool, true, false, cond}
use mathlib.Core.List.{List}
use Prim.Native.Nat.{ℕ, ◌+◌, ◌*◌, ◌^◌, ◌<◌}
use native.Mathlib.Omega.{arith}
use lib.Count.{ones}
use lib.ListN.{get_or}
use Rattle.finite.specs.Finite.{tabulate}
use Rattle.finite.proofs.Tables.{tabulate_same}
use Rattle.energy.specs.declared.GrossKwh.{GrossKwh}
use Rattle.units.specs.Units.{member_at, members}
use Rattle.units.proofs.Ones.{ones_members}
use Rattle.units.proofs.Laws.{place_lt, members_in, members_mono, members_le}
use Rattle.text.specs.declared.Line.{Line}
use Rattle.lines.specs.Lines.{number_of}
use Rattle.record_lines.specs.Rows.{head_lines, unit_lines, hour_line, net_line, reverse_line, declared_line, real_line, test_line, deviation_line, power_line, reading_line, since_line, repair_line, spans_line}
use Rattle.blanks.specs.Blanks.{value_or, reading_by, span_by, spans_by, unit_by, place_by}
use Rattle.record_lines.specs.Rows.{block_line}
use Rattle.record.specs.Empty.{no_unit}
use Rattle.record_text.specs.Hour.{record_by}

-- the blocks of a machine's mask: that of a unit in the plant is one of as many as the mask has ones
pub block_read : (units k : ℕ) → units < 2 ^ 64 → member_at units k ≡ true → members units k < ones units
block_read units k h t =
    omega (arith, members_in units k t, members_mono units (k + 1) 64 (omega (arith, place_lt units k t)), ones_members units 64 h)

module _ (f g : ℕ → Line) where
  unit_same : (j : ℕ) (monthly : GrossKwh) → ((i : ℕ) → i < unit_lines → f (block_line j + i) ≡ g (block_line j + i)) → unit_by f j monthly ≡ unit_by g j monthly
  unfolding unit_by
  unit_same j monthly same = λ i.
      record {
        declared = record { 0 = value_or monthly.0 (same declared_line (omega arith) i) };
        real = record { 0 = value_or 0 (same real_line (omega arith) i) };
        test = record { 0 = value_or 0 (same test_line (omega arith) i) };
        deviation = record { 0 = value_or 0 (same deviation_line (omega arith) i) };
        power = record { 0 = value_or monthly.0 (same power_line (omega arith) i) };
        reading = reading_by (same reading_line (omega arith) i);
        since = value_or 1 (same since_line (omega arith) i);
        repair = value_or 0 (same repair_line (omega arith) i);
        spans = spans_by (same spans_line (omega arith) i);
        span = tabulate 6 (span_by (same spans_line (omega arith) i) (record { 0 = value_or monthly.0 (same declared_line (omega arith) i) }));
      }

  -- they agree on the head and on the blocks of the plant's units
  module _ (units : ℕ) (monthly : List GrossKwh) (fits : units < 2 ^ 64) (agree : (k : ℕ) → k < 84 → k < head_lines + unit_lines * ones units → f k ≡ g k) where
    place_same : (k : ℕ) → k < 8 → place_by f units monthly k ≡ place_by g units monthly k
    place_same k l = by (member_at units k) refl
      where
        m : GrossKwh
        m = get_or monthly k (record { 0 = 0 })

        by : (t : Bool) → member_at units k ≡ t → cond t (unit_by f (members units k) m) no_unit ≡ cond t (unit_by g (members units k) m) no_unit
        by true e =
            let b = block_read units k fits e in
            unit_same (members units k) m (λ i h. agree (block_line (members units k) + i) (omega (arith, members_le units k)) (omega arith))
        by false e = refl

    pub record_same : record_by f units monthly ≡ record_by g units monthly
    unfolding record_by
    record_same = λ i.
        record {
          hour = number_of (agree hour_line (omega arith) (omega arith) i);
          net = record { 0 = value_or 0 (agree net_line (omega arith) (omega arith) i) };
          reverse = record { 0 = value_or 0 (agree reverse_line (omega arith) (omega arith) i) };
          unit = tabulate_same 8 (place_by f units monthly) (place_by g units monthly) place_same i;
        }
