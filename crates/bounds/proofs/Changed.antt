-- A test over a range, or over a list's elements, that holds of all but one, comes to the test of that one.
-- Assumes nothing.
use mathlib.Core.Path.{◌≡◌, refl, sym, ◌∙◌, ap, subst}
use mathlib.Core.Bool.{Bool, true, false, ◌&&◌}
use mathlib.Core.List.{List}
use Prim.Native.Nat.{ℕ, ◌<◌}
use native.Mathlib.Decide.{ℕ_discrete}
use lib.ListN.{length, get_or, set}
use lib.Seq.{get_or-set_same, get_or-set_other}
use Rattle.finite.specs.Finite.{every}
use Rattle.finite.proofs.Tests.{every_at, every_all, every_fails}

pub every_one : (n i : ℕ) (f : ℕ → Bool) → i < n → ((j : ℕ) → j < n → (j ≡ i → ⊥) → f j ≡ true) → every n f ≡ f i
every_one n i f l others = by (f i) refl
  where
    by : (t : Bool) → f i ≡ t → every n f ≡ t
    by true e = every_all n f (λ j k. at j k (ℕ_discrete j i))
      where
        at : (j : ℕ) → j < n → Dec (j ≡ i) → f j ≡ true
        at j k (yes q) = ap f q ∙ e
        at j k (no q) = others j k q
    by false e = every_fails n i f l e

-- element i of a list is replaced
module _ {A : Type 0} (n : ℕ) (list : List A) (d x : A) (test : A → Bool) (i : ℕ) where
  pub every_set : length list ≡ n → i < n → every n (λ j. test (get_or list j d)) ≡ true
      → every n (λ j. test (get_or (set list i x) j d)) ≡ test x
  every_set long l holds =
      every_one n i (λ j. test (get_or (set list i x) j d)) l
      (λ j k q. ap test (get_or-set_other list i j x d q) ∙ every_at n (λ j. test (get_or list j d)) holds j k)
      ∙ ap test (get_or-set_same list i x d (subst (λ (m : ℕ). i < m) (sym long) l))

-- a test beside one that holds
pub and_first : (a b : Bool) → b ≡ true → (a && b) ≡ a
and_first true b e = e
and_first false b e = refl

pub and_second : (a b : Bool) → a ≡ true → (a && b) ≡ b
and_second a b e = rw e
