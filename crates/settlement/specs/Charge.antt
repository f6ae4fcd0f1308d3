-- The charge of a failed test against its exact product (01, Five items, 4; 02, wish 1: "The under-130-Rial statement holds with the new W.").
use Rattle.std.specs.Prelude.{◌≡◌, true, ℕ, ℤ, nat_abs}
use Rattle.energy.specs.declared.HubGrains.{HubGrains}
use Rattle.sheet.specs.declared.Sheet.{Sheet}
use Rattle.sheet.specs.Ranges.{unit_at as sheet_unit}
use Rattle.record.specs.declared.Record.{Record}
use Rattle.record.specs.Spans.{unit_at as record_unit}
use Rattle.charge.specs.Test.{written_q, written_w, is_charged, hours_counted, NearExact}
use Rattle.deviation.specs.Deviation.{deviations_of}
use Rattle.terms.specs.Terms.{rates_of}

-- "Where charged, it never exceeds the exact product .. and falls short of it by under 130 Rial": item 4 of the unit at place k, by the hour's
-- record and the unit's energy
unfoldable pub ChargeNear : Sheet → Record → ℕ → HubGrains → ℤ → Type 0
ChargeNear sheet r k energy item =
    let rates = rates_of sheet r.hour in
    let u = record_unit r k in
    let d = deviations_of (sheet_unit sheet.unit k).own u in
    is_charged (record { 0 = written_q d u.repair }) u.reading energy rates.loss ≡ true
    → NearExact (written_w d u.repair) rates.cpf rates.bar (hours_counted u.since) (nat_abs item)
