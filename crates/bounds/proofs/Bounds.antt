-- Every row of the table is right: part by part.
-- Assumes nothing.
use mathlib.Core.Path.{◌≡◌}
use mathlib.Core.Bool.{true}
use mathlib.Core.List.{List, [], ◌∷◌, ◌++◌}
use Rattle.finite.proofs.Tests.{and_left, and_right, and_both}
use Rattle.bounds.specs.Given.{Free}
use Rattle.bounds.specs.Rows.{Row, right, all_right, head_rows, unit_rows, offer_rows, commitment_rows, stored_rows, rows}
use Rattle.bounds.proofs.Parts.{head_right, units_right, first_offer_right, last_offer_right, commitments_right, stored_right, journal_right}

module _ (free : Free) where
  -- rows that are right, followed by rows that are right
  both : (xs ys : List Row) → all_right free xs ≡ true → all_right free ys ≡ true → all_right free (xs ++ ys) ≡ true
  unfolding all_right
  both [] ys a b = b
  both (x ∷ xs) ys a b =
      and_both (right free x) (all_right free (xs ++ ys)) (and_left (right free x) (all_right free xs) a)
      (both xs ys (and_right (right free x) (all_right free xs) a) b)

  pub rows_right : all_right free rows ≡ true
  unfolding rows
  rows_right =
      both head_rows _ (head_right free)
      (both unit_rows _ (units_right free)
      (both (offer_rows 1 1) _ (first_offer_right free)
      (both (offer_rows 24 8) _ (last_offer_right free)
      (both commitment_rows _ (commitments_right free) (both stored_rows _ (stored_right free) (journal_right free))))))
