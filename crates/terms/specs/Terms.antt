-- What settlements use of the sheet (01, Allocation; Five items). Place k is that of unit k + 1.
use Rattle.std.specs.Prelude.{◌≡◌, refl, List, ℕ, ◌-◌, get_or}
use Rattle.finite.specs.Finite.{tabulate}
use Rattle.offer.specs.Offer.{past_offer}
use Rattle.sheet.specs.declared.UnitSheet.{UnitSheet}
use Rattle.sheet.specs.declared.Sheet.{Sheet}
use Rattle.sheet.specs.Ranges.{unit_at as sheet_unit, offer_at}
use Rattle.formulas.specs.Items.{in_season}
use Rattle.terms.specs.declared.Rates.{Rates}
use Rattle.terms.specs.declared.UnitTerms.{UnitTerms}
use Rattle.terms.specs.declared.HourSheet.{HourSheet}

-- what the formulas use of the sheet in an hour, 1 to 24
unfoldable pub rates_of : Sheet → ℕ → Rates
rates_of sheet hour =
    record { season = in_season sheet.month sheet.day; loss = sheet.loss; bar = sheet.bar; cpf = get_or sheet.cpf (hour - 1) 0 }

-- what an hour's settlement uses of a unit's sheet, in the hour h, from 0, and of each unit's
abbrev pub unit_terms : UnitSheet → ℕ → UnitTerms
unit_terms u h = record { own = u.own; nominal = u.nominal; offer = offer_at u h }

abbrev pub units_terms : Sheet → ℕ → List UnitTerms
units_terms sheet h = tabulate 8 (λ k. unit_terms (sheet_unit sheet.unit k) h)

-- what an index past the end of the units reads, and the unit of place k
abbrev pub past_terms : UnitTerms
past_terms = record { own = 0; nominal = record { 0 = 0 }; offer = past_offer }

abbrev pub terms_at : HourSheet → ℕ → UnitTerms
terms_at day k = get_or day.unit k past_terms

-- what it uses of the sheet, with what it uses of the units'
abbrev pub hour_sheet_with : Sheet → ℕ → List UnitTerms → HourSheet
hour_sheet_with sheet hour unit =
    record { rates = rates_of sheet hour; ceiling = sheet.ceiling; units = sheet.units; unit = unit }

pub hour_sheet : Sheet → ℕ → HourSheet
hour_sheet sheet hour = hour_sheet_with sheet hour (units_terms sheet (hour - 1))

-- `hour_sheet` is opened by this alone, in `terms` and `settlement`; the crates above rest on `hour_units` (proofs/Taken.antt), `hour_by_lem` and `proportions_by_lem` (crate settlement)
pub hour_sheet_is : (sheet : Sheet) (hour : ℕ) → hour_sheet sheet hour ≡ hour_sheet_with sheet hour (units_terms sheet (hour - 1))
unfolding hour_sheet
hour_sheet_is sheet hour = refl
