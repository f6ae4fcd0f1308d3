-- Lists made by index: of a list's own entries, and of a list of records of one number, which is that of its numbers.
-- Each holds entry by entry, since the list made by index has as many entries as the list itself.
-- Assumes nothing.
use mathlib.Core.Path.{◌≡◌, sym, ◌∙◌, ap}
use mathlib.Core.List.{List}
use Prim.Native.Nat.{ℕ}
use native.Mathlib.Omega.{arith}
use lib.ListN.{length, get_or}
use lib.Seq.{ext_get_or}
use Rattle.finite.specs.Finite.{tabulate}
use Rattle.finite.proofs.Tables.{length_tabulate, get_d_tabulate, tabulate_same}

-- a list is that of its entries
pub own_entries : {A : Type 0} (n : ℕ) (l : List A) (z : A) → length l ≡ n → tabulate n (λ i. get_or l i z) ≡ l
own_entries n l z e =
    ext_get_or z (tabulate n (λ i. get_or l i z)) l (length_tabulate n (λ i. get_or l i z) ∙ sym e)
    (λ i h. get_d_tabulate n (λ i. get_or l i z) i z (omega (arith, length_tabulate n (λ i. get_or l i z))))

-- records of one number: a list is that of its own numbers
module _ {A : Type 0} (none : A) (n : ℕ) (of : ℕ → A) where
  pub own_numbers : (number : A → ℕ) → ((x : A) → of (number x) ≡ x) → (l : List A) → length l ≡ n
      → tabulate n (λ j. of (get_or (tabulate n (λ i. number (get_or l i none))) j 0)) ≡ l
  own_numbers number back l long =
      let f : ℕ → ℕ = λ i. number (get_or l i none) in
      tabulate_same n (λ j. of (get_or (tabulate n f) j 0)) (λ j. get_or l j none) (λ j m. ap of (get_d_tabulate n f j 0 m) ∙ back (get_or l j none))
      ∙ own_entries n l none long
