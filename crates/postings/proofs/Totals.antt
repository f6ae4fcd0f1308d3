-- The bound on postings and their totals, over lists: of two lists one after the other, of a list made by index, and how large a total can be.
-- Assumes nothing.
use mathlib.Core.Path.{◌≡◌, refl, sym, ap, ◌∙◌}
use mathlib.Core.Bool.{Bool, true, false, cond, ◌&&◌}
use mathlib.Core.Logic.{⊎_elim}
use mathlib.Core.List.{List, [], ◌∷◌, ◌++◌}
use Prim.Native.Nat.{ℕ, zero, suc, ◌*◌, ◌≤◌, ◌<◌}
use native.Mathlib.Nat.{not-suc-le-zero, le_of_suc-le-suc, eq-or-lt_of_le}
use native.Mathlib.Omega.{arith}
use borrow.Author.Tests.{leb-true, le-leb}
use lib.IntN.{ℤ, pos, nat_abs, ◌+ℤ◌, +ℤ_idl, +ℤ_idr, +ℤ_assoc}
use lib.ListN.{length, get_or}
use Rattle.finite.specs.Finite.{tabulate}
use Rattle.finite.proofs.Tests.{and_left, and_right, and_both}
use Rattle.formulas.proofs.Amounts.{nat_abs_add}
use Rattle.state.specs.Ranges.{within}
use Rattle.postings.specs.declared.Posting.{Posting}
use Rattle.postings.specs.Journal.{no_posting, most_postings, most_posted, posted_hold, is_of, total_of, most_total}

-- the bound, of two lists and by index
pub posted_append : (l m : List Posting) → posted_hold (l ++ m) ≡ (posted_hold l && posted_hold m)
unfolding posted_hold
posted_append [] m = refl
posted_append (x ∷ l) m = by (within x.amount most_posted) (posted_append l m)
  where
    by : (t : Bool) → posted_hold (l ++ m) ≡ (posted_hold l && posted_hold m)
        → (t && posted_hold (l ++ m)) ≡ ((t && posted_hold l) && posted_hold m)
    by true e = e
    by false e = refl

pub posted_at : (l : List Posting) → posted_hold l ≡ true → (j : ℕ) → nat_abs (get_or l j no_posting).amount ≤ most_posted
unfolding posted_hold
posted_at [] t j = omega arith
posted_at (x ∷ l) t zero = leb-true (nat_abs x.amount) most_posted (and_left (within x.amount most_posted) (posted_hold l) t)
posted_at (x ∷ l) t (suc j) = posted_at l (and_right (within x.amount most_posted) (posted_hold l) t) j

posted_rest : (x : Posting) (l : List Posting) → posted_hold (x ∷ l) ≡ true → posted_hold l ≡ true
unfolding posted_hold
posted_rest x l t = and_right (within x.amount most_posted) (posted_hold l) t

pub posted_all : (l : List Posting) → ((j : ℕ) → j < length l → nat_abs (get_or l j no_posting).amount ≤ most_posted) → posted_hold l ≡ true
unfolding posted_hold
posted_all [] h = refl
posted_all (x ∷ l) h =
    and_both (within x.amount most_posted) (posted_hold l) (le-leb (nat_abs x.amount) most_posted (h 0 (omega arith)))
    (posted_all l (λ j m. h (suc j) (omega arith)))

module _ (unit item : ℕ) where
  part : Posting → ℤ
  part x = cond (is_of x unit item) x.amount (pos 0)

  part_size : (x : Posting) → nat_abs (part x) ≤ nat_abs x.amount
  unfolding part
  part_size x = by (is_of x unit item)
    where
      by : (t : Bool) → nat_abs (cond t x.amount (pos 0)) ≤ nat_abs x.amount
      by true = omega arith
      by false = omega arith

  pub total_nothing : total_of unit item [] ≡ pos 0
  unfolding total_of
  total_nothing = refl

  pub total_append : (l m : List Posting) → total_of unit item (l ++ m) ≡ total_of unit item l +ℤ total_of unit item m
  unfolding total_of
  total_append [] m = sym (+ℤ_idl (total_of unit item m))
  total_append (x ∷ l) m =
      ap (λ (z : ℤ). cond (is_of x unit item) x.amount (pos 0) +ℤ z) (total_append l m)
      ∙ sym (+ℤ_assoc (cond (is_of x unit item) x.amount (pos 0)) (total_of unit item l) (total_of unit item m))

  -- one posting at the end
  pub total_more : (l : List Posting) (x : Posting)
      → total_of unit item (l ++ (x ∷ [])) ≡ total_of unit item l +ℤ cond (is_of x unit item) x.amount (pos 0)
  unfolding total_of
  total_more l x =
      total_append l (x ∷ []) ∙ ap (λ (z : ℤ). total_of unit item l +ℤ z) (+ℤ_idr (cond (is_of x unit item) x.amount (pos 0)))

  pub total_size : (l : List Posting) → posted_hold l ≡ true → nat_abs (total_of unit item l) ≤ most_posted * length l
  unfolding total_of part
  total_size [] t = omega arith
  total_size (x ∷ l) t =
      omega (
        arith,
        nat_abs_add (part x) (total_of unit item l),
        part_size x,
        posted_at (x ∷ l) t 0,
        total_size l (posted_rest x l t),
      )

  -- 100,000 postings at most: the total keeps to 10^17
  pub total_most : (l : List Posting) → length l ≤ most_postings → posted_hold l ≡ true → nat_abs (total_of unit item l) ≤ most_total
  total_most l h t = omega (arith, total_size l t)

  -- a list made by index: none of the unit and item, and just one
  module _ (f : ℕ → Posting) where
    pub total_none : (n : ℕ) → ((j : ℕ) → j < n → is_of (f j) unit item ≡ false) → total_of unit item (tabulate n f) ≡ pos 0
    unfolding tabulate total_of
    total_none zero h = refl
    total_none (suc n) h =
        total_more (tabulate n f) (f n)
        ∙ rw (total_none n (λ j l. h j (omega arith)), h n (omega arith))

    pub total_one : (n i : ℕ) → i < n → is_of (f i) unit item ≡ true
        → ((j : ℕ) → j < n → (j ≡ i → ⊥) → is_of (f j) unit item ≡ false) → total_of unit item (tabulate n f) ≡ (f i).amount
    unfolding tabulate
    total_one zero i l here other = absurd (not-suc-le-zero l)
    total_one (suc n) i l here other =
        ⊎_elim
        (λ (e : i ≡ n).
        total_more (tabulate n f) (f n)
        ∙ rw (total_none n (λ j m. other j (omega arith) (λ q. omega arith)), ← e, here) (+ℤ_idl (f i).amount))
        (λ (h : i < n).
        total_more (tabulate n f) (f n)
        ∙ rw (total_one n i h here (λ j m. other j (omega arith)), other n (omega arith) (λ q. omega arith)) (+ℤ_idr (f i).amount))
        (eq-or-lt_of_le (le_of_suc-le-suc l))
