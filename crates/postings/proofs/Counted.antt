-- The count and the number of postings looked at: where the count holds, all of those up to it.
-- Assumes nothing.
use mathlib.Core.Path.{◌≡◌}
use mathlib.Core.Bool.{true}
use Prim.Native.Nat.{ℕ, ◌≤◌}
use native.Mathlib.Omega.{arith}
use borrow.Author.Tests.{leb-true, le-leb}
use lib.Dec.{leb}
use Rattle.finite.proofs.Tests.{and_left, and_right, and_both}
use Rattle.postings.specs.Journal.{most_postings, count_holds, covered_by}

module _ (count len : ℕ) where
  pub count_list : count_holds count len ≡ true → count ≤ len
  unfolding count_holds
  count_list t = leb-true count len (and_left (leb count len) (leb count most_postings) t)

  pub count_most : count_holds count len ≡ true → count ≤ most_postings
  unfolding count_holds
  count_most t = leb-true count most_postings (and_right (leb count len) (leb count most_postings) t)

  pub count_back : count ≤ len → count ≤ most_postings → count_holds count len ≡ true
  unfolding count_holds
  count_back a b = and_both (leb count len) (leb count most_postings) (le-leb count len a) (le-leb count most_postings b)

  pub covered_list : covered_by count len ≤ len
  unfolding covered_by
  covered_list = omega arith

  pub covered_most : covered_by count len ≤ most_postings
  unfolding covered_by
  covered_most = omega arith

  pub covered_all : count_holds count len ≡ true → covered_by count len ≡ count
  unfolding covered_by
  covered_all t = omega (arith, count_list t, count_most t)
