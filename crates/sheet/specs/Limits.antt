-- The largest values that the day sheet admits (01, Energies and sheet), each named once: its rows and refusal 9 both use them.
use Rattle.std.specs.Prelude.{ℕ, cond, leb}

-- "`month` 1–12"
abbrev pub last_month : ℕ
last_month = 12

-- "`day` (to 31 in months 1–6, to 30 after; Persian calendar)"
abbrev pub last_day : ℕ → ℕ
last_day month = cond (leb month 6) 31 30

-- "L: plant loss, ρ: unit's own use, both in ten-thousandths, 0 to 2,000"
abbrev pub most_loss : ℕ
most_loss = 2000

abbrev pub most_own : ℕ
most_own = 2000

-- "`ceiling` Rial/MWh 0–10^7"
abbrev pub most_ceiling : ℕ
most_ceiling = 10000000

-- "`bar` Rial/MW 0–10^6"
abbrev pub most_bar : ℕ
most_bar = 1000000

-- "`cpf` 24 lines in thousandths 0–10,000"
abbrev pub most_cpf : ℕ
most_cpf = 10000

-- "`units` 1–255"
abbrev pub most_units : ℕ
most_units = 255

-- "`nominal` 1–10^6 kWh, `monthly` 0–10^6 kWh gross"
abbrev pub most_kwh : ℕ
most_kwh = 1000000

-- "cumulative hub kWh 1–10^6 .. Rial/MWh 0–10^7"
abbrev pub most_quantity : ℕ
most_quantity = 1000000

abbrev pub most_price : ℕ
most_price = 10000000
