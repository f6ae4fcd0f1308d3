-- What the values of a record that was read keep to (01, Hour record). `read_ranges` (proofs/Laws.antt) says that each record read does.
use Rattle.std.specs.Prelude.{◌≡◌, true, false, ℕ, ◌≤◌, ◌<◌}
use Rattle.std.specs.Option.{ForSome}
use Rattle.units.specs.Units.{member_at}
use Rattle.record.specs.declared.Span.{Span}
use Rattle.record.specs.declared.UnitRecord.{UnitRecord}
use Rattle.record.specs.declared.Record.{Record}
use Rattle.record.specs.Limits.{last_hour, most_plant_kwh, most_kwh, most_since, most_spans, hour_minutes, last_kind, last_cause}
use Rattle.record.specs.Empty.{no_unit}
use Rattle.record.specs.Spans.{unit_at, span_at}

-- "Spans: 1 to 6 of minutes:kind:cause:capability"
pub record SpanInRange (s : Span) : Type 0 where
  pub minutes_least : 1 ≤ s.minutes
  pub minutes_most : s.minutes ≤ hour_minutes
  pub kind_least : 1 ≤ s.kind
  pub kind_most : s.kind ≤ last_kind
  pub cause : s.cause ≤ last_cause
  pub capability : s.capability.0 ≤ most_kwh

-- "per unit ascending `declared` (gross), `real` (net capability), (..), each 0–10^6 kWh; `since` 1–744; `repair` 1 (..) else 0; `spans`"
pub record UnitInRange (u : UnitRecord) : Type 0 where
  pub declared : u.declared.0 ≤ most_kwh
  pub real : u.real.0 ≤ most_kwh
  pub test : u.test.0 ≤ most_kwh
  pub deviation : u.deviation.0 ≤ most_kwh
  pub power : u.power.0 ≤ most_kwh
  pub reading : ForSome u.reading (λ n. n.0 ≤ most_kwh)
  pub since_least : 1 ≤ u.since
  pub since_most : u.since ≤ most_since
  pub repair : u.repair ≤ 1
  pub spans_least : 1 ≤ u.spans
  pub spans_most : u.spans ≤ most_spans
  pub span : (i : ℕ) → i < u.spans → SpanInRange (span_at u i)

-- "`hour` 1–24, `net` and `reverse` (gate kWh, 0–8,000,000), then per unit": outside the plant nothing is read
pub record InRange (units : ℕ) (r : Record) : Type 0 where
  pub hour_least : 1 ≤ r.hour
  pub hour_most : r.hour ≤ last_hour
  pub net : r.net.0 ≤ most_plant_kwh
  pub reverse : r.reverse.0 ≤ most_plant_kwh
  pub unit : (k : ℕ) → member_at units k ≡ true → UnitInRange (unit_at r k)
  pub outside : (k : ℕ) → k < 8 → member_at units k ≡ false → unit_at r k ≡ no_unit
