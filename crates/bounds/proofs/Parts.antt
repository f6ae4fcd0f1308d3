-- The parts of the table: every row is right, whatever stands where neither 9 nor 12 looks. Computed.
-- Assumes nothing.
use mathlib.Core.Path.{◌≡◌, refl}
use mathlib.Core.Bool.{true}
use Rattle.finite.specs.Finite.{every, tabulate}
use Rattle.units.specs.Units.{is_member, member_at}
use Rattle.offer.specs.Offer.{steps_allowed, in_range, in_order, offer_holds, last_quantity}
use Rattle.sheet.specs.Ranges.{unit_holds, sheet_holds}
use Rattle.state.specs.Ranges.{limit_of, book_holds}
use Rattle.postings.specs.Journal.{count_holds, posted_hold}
use Rattle.bounds.specs.Given.{refusal, Free}
use Rattle.bounds.specs.Rows.{gave, refused_below, right, all_right, head_rows, unit_rows, offer_rows, commitment_rows, stored_rows, journal_rows}

module _ (free : Free) where
  pub head_right : all_right free head_rows ≡ true
  unfolding every is_member member_at steps_allowed in_range in_order offer_holds last_quantity unit_holds sheet_holds limit_of book_holds count_holds posted_hold refusal gave refused_below right all_right head_rows
  head_right = refl

  pub units_right : all_right free unit_rows ≡ true
  unfolding every is_member member_at steps_allowed in_range in_order offer_holds last_quantity unit_holds sheet_holds limit_of book_holds count_holds posted_hold refusal gave refused_below right all_right unit_rows
  units_right = refl

  pub first_offer_right : all_right free (offer_rows 1 1) ≡ true
  unfolding every is_member member_at steps_allowed in_range in_order offer_holds last_quantity unit_holds sheet_holds limit_of book_holds count_holds posted_hold refusal gave refused_below right all_right offer_rows
  first_offer_right = refl

  pub last_offer_right : all_right free (offer_rows 24 8) ≡ true
  unfolding every is_member member_at steps_allowed in_range in_order offer_holds last_quantity unit_holds sheet_holds limit_of book_holds count_holds posted_hold refusal gave refused_below right all_right offer_rows
  last_offer_right = refl

  pub commitments_right : all_right free commitment_rows ≡ true
  unfolding every is_member member_at steps_allowed in_range in_order offer_holds last_quantity unit_holds sheet_holds limit_of book_holds count_holds posted_hold refusal gave refused_below right all_right commitment_rows
  commitments_right = refl

  pub stored_right : all_right free stored_rows ≡ true
  unfolding every is_member member_at steps_allowed in_range in_order offer_holds last_quantity unit_holds sheet_holds limit_of book_holds count_holds posted_hold refusal gave refused_below right all_right stored_rows
  stored_right = refl

  pub journal_right : all_right free journal_rows ≡ true
  unfolding every is_member member_at steps_allowed in_range in_order offer_holds last_quantity unit_holds sheet_holds limit_of book_holds count_holds posted_hold refusal gave refused_below right all_right tabulate journal_rows
  journal_right = refl
