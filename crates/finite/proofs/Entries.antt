-- The sum of a list's entries by index, and of a list made by index, is what a chain's `sum` gives.
-- Assumes nothing.
use Rattle.std.proofs.Common.{◌≡◌, refl, sym, ◌∙◌, ap, ℕ, zero, suc, ◌+◌, List, [], ◌∷◌, length, get_or, arith}
use Rattle.std.specs.Prelude.{sum as list_sum}
use Rattle.std.proofs.lemmas.List.Sums.{sum_by-cons}
use Rattle.finite.specs.Finite.{sum, tabulate}
use Rattle.finite.proofs.Sums.{sum_same}
use Rattle.finite.proofs.Tables.{length_tabulate, get_d_tabulate}

-- the first apart: f 0 and the others
sum_first : (n : ℕ) (f : ℕ → ℕ) → sum (suc n) f ≡ f 0 + sum n (λ i. f (suc i))
unfolding sum
sum_first zero f = omega arith
sum_first (suc n) f = omega (arith, sum_first n f)

pub sum_entries : (l : List ℕ) → sum (length l) (λ i. get_or l i 0) ≡ list_sum l
unfolding sum
sum_entries [] = refl
sum_entries (x ∷ xs) =
    omega (arith, sum_first (length xs) (λ i. get_or (x ∷ xs) i 0), sum_entries xs, sum_by-cons (λ (n : ℕ). n) x xs)

pub sum_tabulate : (n : ℕ) (f : ℕ → ℕ) → list_sum (tabulate n f) ≡ sum n f
sum_tabulate n f =
    let entry : ℕ → ℕ = λ i. get_or (tabulate n f) i 0 in
    sym (sum_entries (tabulate n f)) ∙ (ap (λ (m : ℕ). sum m entry) (length_tabulate n f) ∙ sum_same n entry f (λ i l. get_d_tabulate n f i 0 l))
