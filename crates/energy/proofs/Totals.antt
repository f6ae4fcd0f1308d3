-- The total of a list of energies that is made by index is the sum of their amounts by index: one more at the end adds its own.
-- Assumes nothing.
use mathlib.Core.Path.{◌≡◌, refl}
use Prim.Native.Nat.{ℕ, zero, suc}
use native.Mathlib.Omega.{arith}
use Rattle.std.specs.Prelude.{sum_by}
use Rattle.std.proofs.lemmas.List.Sums.{sum_by_push}
use Rattle.finite.specs.Finite.{sum, tabulate}

pub total_tabulate : {E : Type 0} (amount : E → ℕ) (n : ℕ) (f : ℕ → E) → sum_by amount (tabulate n f) ≡ sum n (λ k. amount (f k))
unfolding sum tabulate
total_tabulate amount zero f = refl
total_tabulate amount (suc n) f = omega (arith, sum_by_push amount (tabulate n f) (f n), total_tabulate amount n f)
