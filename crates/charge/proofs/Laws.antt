-- What the crates above use of the test: how large the deviation of a kind, q and W can be.
-- Assumes nothing.
use Prim.Native.Nat.{ℕ, ◌*◌, ◌≤◌, ◌<◌}
use native.Mathlib.Omega.{arith}
use Rattle.finite.proofs.Sums.{sum_le, sum_mul, sum_has}
use Rattle.formulas.specs.declared.Deviations.{Deviations}
use Rattle.formulas.specs.Items.{kinds, deviation_at, whole_deviation}
use Rattle.charge.specs.Test.{counted_part, counted_deviation, weighted_part, weighted}
use Rattle.charge.proofs.Weights.{part_most, counted_most}

-- item 4: the deviation of each kind and q are at most the deviation, and W at most ten times that
module _ (d : Deviations) (most : ℕ) (split : whole_deviation d ≤ most) where
  pub deviation_most : (j : ℕ) → j < kinds → (deviation_at d j).0 ≤ most
  deviation_most j l = omega (arith, sum_has kinds j (λ j. (deviation_at d j).0) l)

  pub counted_in : (repair : ℕ) → (counted_deviation d repair).0 ≤ most
  unfolding counted_deviation
  counted_in repair = omega (arith, sum_le kinds (counted_part d repair) (λ j. (deviation_at d j).0) (λ j l. counted_most d repair j))

  pub weighted_most : (repair : ℕ) → weighted d repair ≤ 10 * most
  unfolding weighted
  weighted_most repair =
      let ten : ℕ → ℕ = λ j. 10 * (deviation_at d j).0 in
      omega (arith, sum_le kinds (weighted_part d repair) ten (part_most d repair), sum_mul kinds 10 (λ j. (deviation_at d j).0))
