-- The good sheet and book of the table are such as the laws of proofs/Anywhere speak of: computed.
-- Assumes nothing.
use mathlib.Core.Path.{refl, ap}
use native.Mathlib.Omega.{arith}
use lib.ListN.{length, get_or-replicate}
use Rattle.finite.specs.Finite.{every}
use Rattle.units.specs.Units.{is_member, member_at}
use Rattle.offer.specs.Offer.{steps_allowed, in_range, in_order, offer_holds, last_quantity}
use Rattle.sheet.specs.Ranges.{unit_holds, sheet_holds}
use Rattle.settlement.specs.declared.Amounts.{Amounts}
use Rattle.state.specs.Sizes.{entry_of}
use Rattle.state.specs.Book.{past_amounts, Sized}
use Rattle.state.specs.Ranges.{limit_of, book_holds}
use Rattle.bounds.specs.Given.{Free, good_unit, good_sheet, no_items, good_book}
use Rattle.bounds.specs.Anywhere.{SheetBounds, UnitBounds, BookBounds}
use Rattle.bounds.proofs.Anywhere.{sheet_bounds, unit_bounds, book_bounds}

good_sized : Sized good_book
good_sized =
    record {
      commitment = refl;
      mark = refl;
      energy = refl;
      amounts = refl;
      item = λ h k lh lk. ap (λ (a : Amounts). length a.item) (get_or-replicate 192 (entry_of h k) (record { item = no_items }) past_amounts (omega arith));
    }

module _ (free : Free) where
  pub good_sheet_bounds : SheetBounds (good_sheet free)
  unfolding every is_member member_at steps_allowed in_range in_order offer_holds unit_holds sheet_holds
  good_sheet_bounds = sheet_bounds (good_sheet free) refl refl refl

  pub good_unit_bounds : UnitBounds (good_unit free)
  unfolding every steps_allowed in_range in_order offer_holds unit_holds
  good_unit_bounds = unit_bounds (good_unit free) refl refl

  pub good_book_bounds : BookBounds (good_sheet free) good_book
  unfolding every is_member member_at steps_allowed last_quantity limit_of book_holds
  good_book_bounds = book_bounds (good_sheet free) good_book good_sized refl
