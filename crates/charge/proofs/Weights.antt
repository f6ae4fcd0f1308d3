-- q and W by the table of weights. A kind's weight is at most 10 and no more of its deviation counts than there is, so that each part of W is
-- at most ten times the kind's deviation. With the table's rows, q and W are the documents' sums.
-- Assumes nothing.
use mathlib.Core.Path.{◌≡◌, refl, sym, ap}
use mathlib.Core.Bool.{Bool, true, false, cond, not, ◌&&◌}
use Prim.Native.Nat.{ℕ, zero, suc, ◌*◌, ◌-◌, ◌^◌, ◌≤◌, ◌<◌}
use native.Mathlib.Nat.{mul-le-mul, mul-le-mul_right, zero-mul}
use native.Mathlib.Omega.{arith}
use borrow.Author.Tests.{leb-true, ne_eqb}
use lib.Dec.{leb, eqb}
use Rattle.finite.specs.Finite.{sum, every}
use Rattle.finite.proofs.Sums.{sum_has}
use Rattle.finite.proofs.Tests.{every_at}
use Rattle.formulas.specs.declared.Deviations.{Deviations}
use Rattle.formulas.specs.Items.{kinds, deviation_at}
use Rattle.charge.specs.Test.{counted_of, q_part, w_part, written_q, written_w, kind_weights, kind_weight, counted_at, counted_part, counted_deviation, weighted_part, weighted}

pub counted_is : (d : Deviations) (repair : ℕ) → (counted_deviation d repair).0 ≡ written_q d repair
unfolding counted_deviation counted_at kind_weight kind_weights sum
counted_is d repair = omega arith

pub weighted_is : (d : Deviations) (repair : ℕ) → weighted d repair ≡ written_w d repair
unfolding weighted counted_at kind_weight kind_weights sum
weighted_is d repair = omega arith

tenths_most : (j : ℕ) → j < kinds → (kind_weight j).tenths ≤ 10
unfolding every kind_weight kind_weights
tenths_most j l = leb-true (kind_weight j).tenths 10 (every_at kinds (λ j. leb (kind_weight j).tenths 10) refl j l)

module _ (d : Deviations) (repair : ℕ) where
  counted_le : (j : ℕ) → counted_at d repair j ≤ (deviation_at d j).0
  unfolding counted_at
  counted_le j = by (kind_weight j).exempt
    where
      by : (t : Bool) → cond t ((1 - repair) * (deviation_at d j).0) (deviation_at d j).0 ≤ (deviation_at d j).0
      by true = let h : 1 - repair ≤ 1 = omega arith in omega (arith, mul-le-mul_right (deviation_at d j).0 h)
      by false = omega arith

  pub part_most : (j : ℕ) → j < kinds → weighted_part d repair j ≤ 10 * (deviation_at d j).0
  part_most j l = omega (arith, mul-le-mul (counted_le j) (tenths_most j l))

  pub counted_most : (j : ℕ) → counted_part d repair j ≤ (deviation_at d j).0
  counted_most j = by (eqb (kind_weight j).tenths 0)
    where
      by : (t : Bool) → cond t 0 (counted_at d repair j) ≤ (deviation_at d j).0
      by true = omega arith
      by false = counted_le j

  -- by whether `repair` is over 0, of one kind
  counted_same : (j : ℕ) → counted_of (kind_weight j) (deviation_at d j) (not (eqb repair 0)) ≡ counted_at d repair j
  unfolding counted_at
  counted_same j = by (kind_weight j).exempt repair
    where
      by : (e : Bool) (n : ℕ) → cond (e && not (eqb n 0)) 0 (deviation_at d j).0 ≡ cond e ((1 - n) * (deviation_at d j).0) (deviation_at d j).0
      by true zero = omega arith
      by true (suc n) =
          let some : eqb (suc n) 0 ≡ false = ne_eqb (suc n) 0 (λ e. absurd (omega arith)) in
          let none : 1 - suc n ≡ 0 = omega arith in
          rw (some, none) (sym (zero-mul (deviation_at d j).0))
      by false n = refl

  pub q_same : (j : ℕ) → q_part d (not (eqb repair 0)) j ≡ counted_part d repair j
  q_same j = ap (λ (n : ℕ). cond (eqb (kind_weight j).tenths 0) 0 n) (counted_same j)

  pub w_same : (j : ℕ) → w_part d (not (eqb repair 0)) j ≡ weighted_part d repair j
  w_same j = ap (λ (n : ℕ). n * (kind_weight j).tenths) (counted_same j)

  -- a part of W is no more than W
  pub part_fits : weighted d repair < 2 ^ 64 → (j : ℕ) → j < kinds → w_part d (not (eqb repair 0)) j < 2 ^ 64
  unfolding weighted
  part_fits fits j l = omega (arith, sum_has kinds j (weighted_part d repair) l, fits, w_same j)
