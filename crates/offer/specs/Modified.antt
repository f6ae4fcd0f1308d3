-- The modified offer: the price of each of a unit's grains, and what several of them cost (01, Allocation).
use Rattle.std.specs.Prelude.{◌≡◌, cond, ℕ, zero, suc, ◌+◌, ◌-◌, ◌≤◌, ◌<◌, ltb}
use Rattle.finite.specs.Finite.{sum}
use Rattle.energy.specs.declared.HubKwh.{HubKwh}
use Rattle.energy.specs.Energy.{grains_of}
use Rattle.offer.specs.declared.Offer.{Offer}
use Rattle.offer.specs.Offer.{quantity_at, step_price}

-- the price of grain i, from 0, by the steps s, s + 1, .., s + k: each reaches up to its quantity, the last one has no end
-- (01, Allocation: past the last quantity the offer's own last price continues)
unfoldable pub price_from : Offer → ℕ → ℕ → ℕ → ℕ
price_from o s zero i = step_price o s
price_from o s (suc k) i =
    cond (ltb i (grains_of (quantity_at o s)).0) (step_price o s) (price_from o (s + 1) k i)

-- 01, Allocation: the modified offer is the offer with price 0 up to the unit's commitment
-- (Rial/MWh of the unit's grain i, from 0)
unfoldable pub price_at : Offer → HubKwh → ℕ → ℕ
price_at o commitment i = cond (ltb i (grains_of commitment).0) 0 (price_from o 0 (o.steps - 1) i)

-- 01, Allocation: the cost adds each grain's modified price, from a unit's first grain up, undivided and unrounded
unfoldable pub cost_to : Offer → HubKwh → ℕ → ℕ
cost_to o commitment n = sum n (price_at o commitment)

-- the cost of the grains from a unit's grain a up to its grain b, without b
unfoldable pub cost_between : Offer → HubKwh → ℕ → ℕ → ℕ
cost_between o commitment a b = cost_to o commitment b - cost_to o commitment a

-- a block: the grains from i up to the end all have the price, and the end is past i and within the limit
pub record IsBlock (o : Offer) (commitment : HubKwh) (i limit price end : ℕ) : Type 0 where
  pub past : i < end
  pub within : end ≤ limit
  pub flat : (j : ℕ) → i ≤ j → j < end → price_at o commitment j ≡ price

-- step s is the one that grain i falls in: from grain i on, the steps before it do not matter
pub record OnStep (o : Offer) (i s : ℕ) : Type 0 where
  pub known : s ≤ o.steps - 1
  pub rest : (j : ℕ) → i ≤ j → price_from o 0 (o.steps - 1) j ≡ price_from o s (o.steps - 1 - s) j
  pub ends : s < o.steps - 1 → i < (grains_of (quantity_at o s)).0
