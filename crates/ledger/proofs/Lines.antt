-- The line that a refusal names: every refusal but that of a text has line 0, case by case.
-- Assumes nothing.
use mathlib.Core.Path.{◌≡◌, refl}
use Rattle.lines.specs.declared.TextRefusal.{TextRefusal}
use Rattle.ledger.specs.declared.Refusal.{Refusal}
use Rattle.ledger.specs.declared.Refusal.TheVariants.{Text, SheetRange, HourRange, UnitUnknown, BookRange, HourSettled, NoAmount, OverOffer, HeldLess, SameUnit, Minutes, Readings, Proportions, HourStands, HourOpen, NoPlaces}
use Rattle.ledger.specs.Numbers.{refusal_line}

pub no_line_lem : (r : Refusal) → ((t : TextRefusal) → r ≡ Text t → ⊥) → 0 ≡ refusal_line r
no_line_lem (Text t) k = absurd (k t refl)
no_line_lem SheetRange k = refl
no_line_lem HourRange k = refl
no_line_lem UnitUnknown k = refl
no_line_lem BookRange k = refl
no_line_lem HourSettled k = refl
no_line_lem NoAmount k = refl
no_line_lem OverOffer k = refl
no_line_lem HeldLess k = refl
no_line_lem SameUnit k = refl
no_line_lem Minutes k = refl
no_line_lem Readings k = refl
no_line_lem Proportions k = refl
no_line_lem HourStands k = refl
no_line_lem HourOpen k = refl
no_line_lem NoPlaces k = refl
