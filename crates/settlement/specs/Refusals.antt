-- Refusal 33, as a test of a record (01, Book and journal). It holds where the record is not refused.
use Rattle.std.specs.Prelude.{Bool, true, cond}
use Rattle.finite.specs.Finite.{every}
use Rattle.units.specs.Units.{member_at}
use Rattle.sheet.specs.declared.Sheet.{Sheet}
use Rattle.sheet.specs.Ranges.{unit_at as sheet_unit}
use Rattle.record.specs.declared.Record.{Record}
use Rattle.record.specs.Spans.{unit_at as record_unit}
use Rattle.deviation.specs.Proportions.{unit_proportioned}

-- of each unit of the plant
unfoldable pub proportions_hold : Sheet → Record → Bool
proportions_hold sheet r =
    every 8 (λ k. cond (member_at sheet.units k) (unit_proportioned (sheet_unit sheet.unit k).own (record_unit r k)) true)
