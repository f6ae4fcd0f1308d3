-- Sums with signs: over a list's end, over a range in which one entry changes, and over the postings of one item.
-- Assumes nothing.
use mathlib.Core.Path.{◌≡◌, refl, ap, sym, ◌∙◌}
use mathlib.Core.Logic.{⊎_elim}
use mathlib.Core.List.{List, [], ◌∷◌, ◌++◌}
use Prim.Native.Nat.{ℕ, zero, suc, ◌<◌}
use native.Mathlib.Nat.{eq-or-lt_of_le, le_of_suc-le-suc, not-suc-le-zero}
use native.Mathlib.Omega.{arith}
use lib.IntN.{ℤ, pos, ◌+ℤ◌, ◌-ℤ◌, +ℤ_assoc, +ℤ_comm, +ℤ_idl, +ℤ_idr, -ℤ-+ℤ_cancel}
use Rattle.finite.specs.Finite.{tabulate}
use Rattle.postings.specs.declared.Posting.{Posting}
use Rattle.postings.specs.Journal.{total_of}
use Rattle.ledger.specs.Reckoned.{sum_z, of_item}

-- a + (b − a) = b
pub changes : (a b : ℤ) → a +ℤ (b -ℤ a) ≡ b
changes a b = +ℤ_comm a (b -ℤ a) ∙ -ℤ-+ℤ_cancel b a

-- (a + b) + c = (a + c) + b
pub swap : (a b c : ℤ) → (a +ℤ b) +ℤ c ≡ (a +ℤ c) +ℤ b
swap a b c = +ℤ_assoc a b c ∙ (ap (λ (x : ℤ). a +ℤ x) (+ℤ_comm b c) ∙ sym (+ℤ_assoc a c b))

pub sum_z_same : (n : ℕ) (f g : ℕ → ℤ) → ((j : ℕ) → j < n → f j ≡ g j) → sum_z n f ≡ sum_z n g
unfolding sum_z
sum_z_same zero f g h = refl
sum_z_same (suc n) f g h =
    ap (λ (x : ℤ). x +ℤ f n) (sum_z_same n f g (λ j l. h j (omega arith))) ∙ ap (λ (x : ℤ). sum_z n g +ℤ x) (h n (omega arith))

pub sum_z_none : (n : ℕ) (f : ℕ → ℤ) → ((j : ℕ) → j < n → f j ≡ pos 0) → sum_z n f ≡ pos 0
unfolding sum_z
sum_z_none zero f h = refl
sum_z_none (suc n) f h =
    ap (λ (x : ℤ). x +ℤ f n) (sum_z_none n f (λ j l. h j (omega arith))) ∙ (+ℤ_idl (f n) ∙ h n (omega arith))

-- one entry gives way to another
pub sum_z_change : (n j : ℕ) (f g : ℕ → ℤ) → j < n → ((i : ℕ) → i < n → (i ≡ j → ⊥) → g i ≡ f i) → sum_z n g ≡ sum_z n f +ℤ (g j -ℤ f j)
unfolding sum_z
sum_z_change zero j f g l other = absurd (not-suc-le-zero l)
sum_z_change (suc n) j f g l other =
    ⊎_elim
    (λ (e : j ≡ n).
    ap (λ (x : ℤ). x +ℤ g n) (sum_z_same n g f (λ i h. other i (omega arith) (λ q. omega arith)))
    ∙ sym (ap (λ (i : ℕ). (sum_z n f +ℤ f n) +ℤ (g i -ℤ f i)) e
    ∙ (+ℤ_assoc (sum_z n f) (f n) (g n -ℤ f n) ∙ ap (λ (x : ℤ). sum_z n f +ℤ x) (changes (f n) (g n)))))
    (λ (h : j < n).
    ap (λ (x : ℤ). x +ℤ g n) (sum_z_change n j f g h (λ i b. other i (omega arith)))
    ∙ (ap (λ (x : ℤ). (sum_z n f +ℤ (g j -ℤ f j)) +ℤ x) (other n (omega arith) (λ q. omega arith)) ∙ swap (sum_z n f) (g j -ℤ f j) (f n)))
    (eq-or-lt_of_le (le_of_suc-le-suc l))

-- only one entry is not 0
pub sum_z_single : (n j : ℕ) (f : ℕ → ℤ) → j < n → ((i : ℕ) → i < n → (i ≡ j → ⊥) → f i ≡ pos 0) → sum_z n f ≡ f j
sum_z_single n j f l other =
    sum_z_change n j (λ i. pos 0) f l other
    ∙ (ap (λ (x : ℤ). x +ℤ (f j -ℤ pos 0)) (sum_z_none n (λ i. pos 0) (λ i h. refl)) ∙ (+ℤ_idl (f j -ℤ pos 0) ∙ +ℤ_idr (f j)))

module _ (unit item : ℕ) where
  pub add_append : (xs ys : List Posting) → total_of unit item (xs ++ ys) ≡ total_of unit item xs +ℤ total_of unit item ys
  unfolding total_of
  add_append [] ys = sym (+ℤ_idl (total_of unit item ys))
  add_append (x ∷ xs) ys =
      ap (λ (z : ℤ). of_item unit item x +ℤ z) (add_append xs ys) ∙ sym (+ℤ_assoc (of_item unit item x) (total_of unit item xs) (total_of unit item ys))

  pub add_tabulate : (n : ℕ) (f : ℕ → Posting) → total_of unit item (tabulate n f) ≡ sum_z n (λ j. of_item unit item (f j))
  unfolding total_of tabulate sum_z
  add_tabulate zero f = refl
  add_tabulate (suc n) f =
      add_append (tabulate n f) (f n ∷ [])
      ∙ (ap (λ (z : ℤ). z +ℤ (of_item unit item (f n) +ℤ pos 0)) (add_tabulate n f)
      ∙ ap (λ (z : ℤ). sum_z n (λ j. of_item unit item (f j)) +ℤ z) (+ℤ_idr (of_item unit item (f n))))
