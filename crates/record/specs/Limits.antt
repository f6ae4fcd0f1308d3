-- The largest values that an hour record admits (01, Hour record), each named once.
use Rattle.std.specs.Prelude.{ℕ}

-- "`hour` 1–24"
abbrev pub last_hour : ℕ
last_hour = 24

-- "`net` and `reverse` (gate kWh, 0–8,000,000)"
abbrev pub most_plant_kwh : ℕ
most_plant_kwh = 8000000

-- "each 0–10^6 kWh"; "capability gross 0–10^6"
abbrev pub most_kwh : ℕ
most_kwh = 1000000

-- "`since` 1–744"
abbrev pub most_since : ℕ
most_since = 744

-- "Spans: 1 to 6"
abbrev pub most_spans : ℕ
most_spans = 6

-- "minutes 1–60"; refusal 31: "minutes not 60 in all"
abbrev pub hour_minutes : ℕ
hour_minutes = 60

-- "kind 1–7"; 02, wish 1: "Spans admit kind 8"
abbrev pub last_kind : ℕ
last_kind = 8

-- "cause 0 none, 1 environment, 2 frequency control"
abbrev pub last_cause : ℕ
last_cause = 2
