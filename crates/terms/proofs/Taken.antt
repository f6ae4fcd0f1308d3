-- What is taken out of the sheet for an hour, by its one equation.
-- Assumes nothing.
use mathlib.Core.Path.{◌≡◌, sym, ◌∙◌, ap}
use mathlib.Core.List.{List}
use Prim.Native.Nat.{ℕ, ◌-◌}
use Rattle.sheet.specs.declared.Sheet.{Sheet}
use Rattle.terms.specs.declared.UnitTerms.{UnitTerms}
use Rattle.terms.specs.declared.HourSheet.{HourSheet}
use Rattle.terms.specs.Terms.{units_terms, hour_sheet_with, hour_sheet, hour_sheet_is}

-- with what is used of the units' sheets
pub hour_taken : (sheet : Sheet) (hour : ℕ) (unit : List UnitTerms) → unit ≡ units_terms sheet (hour - 1) → hour_sheet_with sheet hour unit ≡ hour_sheet sheet hour
hour_taken sheet hour unit e = ap (hour_sheet_with sheet hour) e ∙ sym (hour_sheet_is sheet hour)

-- the mask is the sheet's
pub hour_units : (sheet : Sheet) (hour : ℕ) → (hour_sheet sheet hour).units ≡ sheet.units
hour_units sheet hour = ap (λ (d : HourSheet). d.units) (hour_sheet_is sheet hour)
