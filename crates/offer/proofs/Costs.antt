-- What grains cost: a sum over the grains, so it can be cut anywhere, and each grain costs at most 10^7.
-- Assumes nothing.
use mathlib.Core.Path.{◌≡◌, refl}
use mathlib.Core.Bool.{true}
use Prim.Native.Nat.{ℕ, ◌+◌, ◌*◌, ◌-◌, ◌≤◌}
use native.Mathlib.Omega.{arith}
use Rattle.finite.specs.Finite.{sum}
use Rattle.finite.proofs.Sums.{sum_mono, sum_most}
use Rattle.energy.specs.declared.HubKwh.{HubKwh}
use Rattle.offer.specs.declared.Offer.{Offer}
use Rattle.offer.specs.Offer.{offer_holds}
use Rattle.offer.specs.Modified.{price_at, cost_to, cost_between}
use Rattle.offer.proofs.Prices.{price_le}

module _ (o : Offer) (commitment : HubKwh) where
  pub cost_zero : cost_to o commitment 0 ≡ 0
  unfolding cost_to sum
  cost_zero = refl

  pub cost_mono : (a b : ℕ) → a ≤ b → cost_to o commitment a ≤ cost_to o commitment b
  unfolding cost_to
  cost_mono a b l = sum_mono a b (price_at o commitment) l

  pub cost_first : (a : ℕ) → cost_between o commitment 0 a ≡ cost_to o commitment a
  unfolding cost_between
  cost_first a = omega (arith, cost_zero)

  pub cost_split : (a b c : ℕ) → a ≤ b → b ≤ c → cost_between o commitment a b + cost_between o commitment b c ≡ cost_between o commitment a c
  unfolding cost_between
  cost_split a b c l m = omega (arith, cost_mono a b l, cost_mono b c m)

  -- at most 10^7 a grain
  module _ (t : offer_holds o ≡ true) where
    pub cost_between_le : (a b : ℕ) → a ≤ b → cost_between o commitment a b ≤ (b - a) * 10000000
    unfolding cost_between cost_to
    cost_between_le a b l =
        omega (arith, sum_most a b (price_at o commitment) l 10000000 (λ u h k. price_le o t commitment u))

    pub cost_le : (a : ℕ) → cost_to o commitment a ≤ a * 10000000
    cost_le a = omega (arith, cost_first a, cost_between_le 0 a (omega arith))
