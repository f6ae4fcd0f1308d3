-- Refusal 32, as a test of a record (01, Book and journal). It holds where the record is not refused.
use Rattle.std.specs.Prelude.{ℕ, Bool, true, cond, not, ◌&&◌, ◌||◌, ltb, eqb, is_some, unwrap_or}
use Rattle.finite.specs.Finite.{sum, every}
use Rattle.energy.specs.declared.NetKwh.{NetKwh}
use Rattle.units.specs.Units.{member_at}
use Rattle.record.specs.declared.UnitRecord.{UnitRecord}
use Rattle.record.specs.declared.Record.{Record}
use Rattle.record.specs.Spans.{unit_at as record_unit}

-- the readings' total, over the plant's units; an unmeasured one counts 0
abbrev pub reading_of : UnitRecord → ℕ
reading_of u = (unwrap_or u.reading (record { 0 = 0 })).0

abbrev pub place_reading : Record → ℕ → ℕ → ℕ
place_reading r units k = cond (member_at units k) (reading_of (record_unit r k)) 0

unfoldable pub readings_total : Record → ℕ → NetKwh
readings_total r units = record { 0 = sum 8 (place_reading r units) }

-- whether none is blank
unfoldable pub all_measured : Record → ℕ → Bool
all_measured r units = every 8 (λ k. cond (member_at units k) (is_some (record_unit r k).reading) true)

-- 32: "readings total over `net`, or none blank and the total not `net`"
unfoldable pub readings_hold : Record → ℕ → Bool
readings_hold r units =
    let total = (readings_total r units).0 in
    not (ltb r.net.0 total || (all_measured r units && not (eqb total r.net.0)))
