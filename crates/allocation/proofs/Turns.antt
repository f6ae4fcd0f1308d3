-- What a closure may be asked at each index below n, where a call leaves it as it was, and what then holds of each entry that it makes.
-- Assumes nothing.
use mathlib.Core.Path.{◌≡◌, sym, subst}
use mathlib.Core.List.{List, [], ◌∷◌}
use mathlib.Core.Logic.{⊎_elim}
use Prim.Native.Nat.{ℕ, zero, suc, ◌+◌, ◌≤◌, ◌<◌}
use native.Mathlib.Nat.{eq-or-lt_of_le}
use native.Mathlib.Omega.{arith}
use lib.ListN.{get_or}
use denote.Param.Members.{Mut, Called}
use Rattle.std.specs.List.{FoldsTo}
use Rattle.std.specs.Array.{index_steps, IsFromFnResultFrom, IsFromFnResult}
use Rattle.std.specs.Iterator.{CallableAtEachTurn}

module _ {P : Type 0} (R : P → ℕ → P → Type 0) (p : P) (stays : (x : ℕ) (q : P) → R p x q → q ≡ p) where
  unmoved : (xs : List ℕ) (q : P) → FoldsTo R p xs q → q ≡ p
  unmoved [] q c = sym c
  unmoved (x ∷ xs) q c = unmoved xs q (subst (λ (k : P). FoldsTo R k xs q) (stays x c.0 c.1) c.2)

pub serves_from_index : {P : Type 0} {R : P → ℕ → P → Type 0} {Q : P → ℕ → Type 0} {n i : ℕ} {p : P}
    → ((x : ℕ) (q : P) → R p x q → q ≡ p) → ((x : ℕ) → x < n → Q p x) → CallableAtEachTurn (index_steps n) R Q i p
serves_from_index {P} {R} {Q} {n} {i} {p} stays h = record {
  at = λ xs t q x u y c e. subst (λ (k : P). Q k x) (sym (unmoved R p stays xs q c)) (h x (omega (arith, e.0, e.1)));
}

module _ {F B : Type 0} {g : Mut F (ℕ × Unit {0}) B} {f : F} (Is : ℕ → B → Type 0) (ys : List B) (n : ℕ) where
  each_from : ((i : ℕ) (y : B) (q : F) → i < n → Called g f (i, tt) y q → (q ≡ f) × Is i y) → (m i : ℕ) → i + m ≡ n → IsFromFnResultFrom g f ys i m
      → (j : ℕ) (d : B) → i ≤ j → j < n → Is j (get_or ys j d)
  each_from made zero i e from j d low high = absurd (omega arith)
  each_from made (suc m) i e (q, y, is, ran, more) j d low high =
      let same = made i y q (omega arith) ran in
      ⊎_elim
      (λ (s : i ≡ j). subst (λ (k : ℕ). Is k (get_or ys k d)) s (subst (Is i) (sym (is.1 d)) same.1))
      (λ (s : i < j). each_from made m (i + 1) (omega arith) (rw same.0 at more) j d (omega arith) high)
      (eq-or-lt_of_le low)

  pub each_from_fn : IsFromFnResult g f ys n → ((i : ℕ) (y : B) (q : F) → i < n → Called g f (i, tt) y q → (q ≡ f) × Is i y)
      → (i : ℕ) (d : B) → i < n → Is i (get_or ys i d)
  each_from_fn from made i d l = each_from made n 0 (omega arith) from.each i d (omega arith) l
