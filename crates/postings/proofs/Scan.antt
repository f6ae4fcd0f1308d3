-- The scan of a list's first postings: it has a sum where they are all within the bound, and then that is their total, since 100,000 of them
-- at most never reach the sum's bound.
-- Assumes nothing.
use mathlib.Core.Path.{◌≡◌, refl, sym, ap, ◌∙◌}
use mathlib.Core.Bool.{Bool, true, false, cond, ◌&&◌}
use Rattle.std.specs.Prelude.{Option, None, Some, is_some}
use mathlib.Core.List.{List, [], ◌∷◌, ◌++◌}
use Prim.Native.Nat.{ℕ, zero, suc, ◌≤◌, ◌<◌}
use native.Mathlib.Omega.{arith}
use borrow.Author.Tests.{le-leb}
use lib.IntN.{ℤ, pos, nat_abs, ◌+ℤ◌, +ℤ_idr}
use lib.ListN.{length, get_or, take}
use lib.Seq.{take-suc, take-length, length-take-le, get_or-take}
use Rattle.finite.proofs.Tests.{and_left, and_right}
use Rattle.state.specs.Ranges.{within}
use Rattle.state.proofs.Entries.{and_true}
use Rattle.postings.specs.declared.Posting.{Posting}
use Rattle.postings.specs.Journal.{no_posting, most_postings, most_posted, posted_hold, is_of, total_of, most_before, scanned_with, scanned_to, scanned}
use Rattle.postings.proofs.Totals.{posted_append, total_more, total_size}

posted_one : (x : Posting) → posted_hold (x ∷ []) ≡ within x.amount most_posted
unfolding posted_hold
posted_one x = and_true (within x.amount most_posted)

-- one posting at the end
pub posted_more : (l : List Posting) (x : Posting) → posted_hold (l ++ (x ∷ [])) ≡ (posted_hold l && within x.amount most_posted)
posted_more l x = posted_append l (x ∷ []) ∙ ap (λ (t : Bool). posted_hold l && t) (posted_one x)

module _ (unit item : ℕ) (x : Posting) where
  with_good : (s : Option ℤ) → is_some (scanned_with s x unit item) ≡ (is_some s && within x.amount most_posted)
  unfolding scanned_with
  with_good None = refl
  with_good (Some z) = by (within x.amount most_posted)
    where
      by : (t : Bool) → is_some (cond t (Some (cond (is_of x unit item && within z most_before) (z +ℤ x.amount) z)) None) ≡ t
      by true = refl
      by false = refl

  with_sum : (z : ℤ) → within x.amount most_posted ≡ true → nat_abs z ≤ most_before
      → scanned_with (Some z) x unit item ≡ Some (z +ℤ cond (is_of x unit item) x.amount (pos 0))
  unfolding scanned_with
  with_sum z g l = rw (g, le-leb (nat_abs z) most_before l) (by (is_of x unit item))
    where
      by : (t : Bool) → Some (cond (t && true) (z +ℤ x.amount) z) ≡ Some (z +ℤ cond t x.amount (pos 0))
      by true = refl
      by false = ap Some (sym (+ℤ_idr z))

module _ (l : List Posting) (unit item : ℕ) where
  pub scan_good : (k : ℕ) → k ≤ length l → is_some (scanned_to l unit item k) ≡ posted_hold (take k l)
  unfolding scanned_to posted_hold
  scan_good zero h = refl
  scan_good (suc k) h =
      let x = get_or l k no_posting in
      with_good unit item x (scanned_to l unit item k)
      ∙ ap (λ (t : Bool). t && within x.amount most_posted) (scan_good k (omega arith))
      ∙ sym (posted_more (take k l) x)
      ∙ ap posted_hold (sym (take-suc l k no_posting h))

  pub scan_sum : (k : ℕ) → k ≤ length l → k ≤ most_postings → posted_hold (take k l) ≡ true
      → scanned_to l unit item k ≡ Some (total_of unit item (take k l))
  unfolding scanned_to total_of
  scan_sum zero h m t = refl
  scan_sum (suc k) h m t =
      let x = get_or l k no_posting in
      let one = take-suc l k no_posting h in
      let both : (posted_hold (take k l) && within x.amount most_posted) ≡ true =
      sym (posted_more (take k l) x) ∙ ap posted_hold (sym one) ∙ t in
      let before = and_left (posted_hold (take k l)) (within x.amount most_posted) both in
      let last = and_right (posted_hold (take k l)) (within x.amount most_posted) both in
      let sum = scan_sum k (omega arith) (omega arith) before in
      let size : nat_abs (total_of unit item (take k l)) ≤ most_before =
      omega (arith, total_size unit item (take k l) before, length-take-le k l (omega arith)) in
      ap (λ (s : Option ℤ). scanned_with s x unit item) sum
      ∙ with_sum unit item x (total_of unit item (take k l)) last size
      ∙ ap Some (sym (total_more unit item (take k l) x) ∙ ap (total_of unit item) (sym one))

  -- the first postings scanned are a list scanned
  same : (m : List Posting) (k : ℕ) → ((j : ℕ) → j < k → get_or l j no_posting ≡ get_or m j no_posting)
      → scanned_to l unit item k ≡ scanned_to m unit item k
  unfolding scanned_to
  same m zero h = refl
  same m (suc k) h =
      let rest = same m k (λ j b. h j (omega arith)) in
      let last = h k (omega arith) in
      λ i. scanned_with (rest i) (last i) unit item

  pub scan_take : (k : ℕ) → k ≤ length l → scanned_to l unit item k ≡ scanned unit item (take k l)
  scan_take k h =
      same (take k l) k (λ j b. sym (get_or-take k l j no_posting b))
      ∙ ap (scanned_to (take k l) unit item) (sym (length-take-le k l h))

  -- a whole list
  pub scanned_good : is_some (scanned unit item l) ≡ posted_hold l
  scanned_good = scan_good (length l) (omega arith) ∙ ap posted_hold (take-length l)

  pub scanned_sum : length l ≤ most_postings → posted_hold l ≡ true → scanned unit item l ≡ Some (total_of unit item l)
  scanned_sum m t =
      scan_sum (length l) (omega arith) m (ap posted_hold (take-length l) ∙ t) ∙ ap (λ (m : List Posting). Some (total_of unit item m)) (take-length l)
