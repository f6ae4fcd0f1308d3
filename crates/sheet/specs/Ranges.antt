-- 01, refusal 9: whether a sheet's values, of units only the plant's, keep their ranges and orders.
use Rattle.std.specs.Prelude.{ℕ, Bool, true, cond, ◌&&◌, List, [], leb, get_or}
use Rattle.finite.specs.Finite.{every, tabulate}
use Rattle.energy.specs.declared.GrossKwh.{GrossKwh}
use Rattle.units.specs.Units.{member_at}
use Rattle.offer.specs.declared.Offer.{Offer}
use Rattle.offer.specs.Offer.{offer_holds, past_offer}
use Rattle.sheet.specs.declared.UnitSheet.{UnitSheet}
use Rattle.sheet.specs.declared.Sheet.{Sheet}
use Rattle.sheet.specs.Limits.{last_month, last_day, most_loss, most_own, most_ceiling, most_bar, most_cpf, most_units, most_kwh}

-- low ≤ n ≤ high
abbrev pub between : ℕ → ℕ → ℕ → Bool
between low n high = leb low n && leb n high

-- what an index past the end of the units reads
abbrev pub past_unit : UnitSheet
past_unit = record { own = 0; nominal = record { 0 = 0 }; monthly = record { 0 = 0 }; offers = [] }

-- the unit of place k, and its offer of an hour counted from 0
abbrev pub unit_at : List UnitSheet → ℕ → UnitSheet
unit_at unit k = get_or unit k past_unit

abbrev pub offer_at : UnitSheet → ℕ → Offer
offer_at u h = get_or u.offers h past_offer

-- each place's monthly practical power
unfoldable pub monthly_of : Sheet → List GrossKwh
monthly_of s = tabulate 8 (λ k. (unit_at s.unit k).monthly)

unfoldable pub unit_holds : UnitSheet → Bool
unit_holds u =
    (leb u.own most_own && between 1 u.nominal.0 most_kwh)
    && (leb u.monthly.0 most_kwh && every 24 (λ h. offer_holds (offer_at u h)))

-- "(of units, only the plant's)"
abbrev pub place_holds : ℕ → ℕ → UnitSheet → Bool
place_holds units k u = cond (member_at units k) (unit_holds u) true

abbrev pub units_hold : ℕ → List UnitSheet → Bool
units_hold units unit = every 8 (λ k. place_holds units k (unit_at unit k))

abbrev pub date_holds : ℕ → ℕ → Bool
date_holds month day = between 1 month last_month && between 1 day (last_day month)

abbrev pub rates_hold : ℕ → ℕ → ℕ → Bool
rates_hold loss ceiling bar = (leb loss most_loss && leb ceiling most_ceiling) && leb bar most_bar

abbrev pub cpf_holds : List ℕ → Bool
cpf_holds cpf = every 24 (λ h. leb (get_or cpf h 0) most_cpf)

unfoldable pub sheet_holds : Sheet → Bool
sheet_holds s =
    (date_holds s.month s.day && rates_hold s.loss s.ceiling s.bar)
    && ((cpf_holds s.cpf && between 1 s.units most_units) && units_hold s.units s.unit)
