-- How a span's kind counts, and refusal 31 (01, Hour record; Book and journal).
use Rattle.std.specs.Prelude.{ℕ, min, Bool, true, cond, ◌||◌, [], eqb, get_or}
use Rattle.finite.specs.Finite.{sum, every}
use Rattle.units.specs.Units.{member_at}
use Rattle.record.specs.declared.Span.{Span}
use Rattle.record.specs.declared.UnitRecord.{UnitRecord}
use Rattle.record.specs.declared.Record.{Record}
use Rattle.record.specs.Limits.{most_spans, hour_minutes}
use Rattle.record.specs.Empty.{no_span, empty_unit}

-- 01, Hour record: "Kind 2 or 3 counts as 7 under cause 1, as 5 under cause 2."; 02, wish 1: "Causes 1 and 2 don't change kind 8."
unfoldable pub counted_kind : Span → ℕ
counted_kind s =
    cond (eqb s.kind 2 || eqb s.kind 3) (cond (eqb s.cause 1) 7 (cond (eqb s.cause 2) 5 s.kind)) s.kind

-- what an index past the end of the units reads
abbrev pub past_unit : UnitRecord
past_unit = empty_unit []

-- the unit of place k, and its span of place i
abbrev pub unit_at : Record → ℕ → UnitRecord
unit_at r k = get_or r.unit k past_unit

abbrev pub span_at : UnitRecord → ℕ → Span
span_at u i = get_or u.span i no_span

-- how many spans a unit has: there is room for six
abbrev pub span_count : UnitRecord → ℕ
span_count u = min u.spans most_spans

unfoldable pub minutes_of : UnitRecord → ℕ
minutes_of u = sum (span_count u) (λ i. (span_at u i).minutes)

-- 01, refusal 31, "minutes not 60 in all", of a unit of the plant
abbrev pub place_minutes : Record → ℕ → ℕ → Bool
place_minutes r units k = cond (member_at units k) (eqb (minutes_of (unit_at r k)) hour_minutes) true

unfoldable pub minutes_hold : Record → ℕ → Bool
minutes_hold r units = every 8 (place_minutes r units)
