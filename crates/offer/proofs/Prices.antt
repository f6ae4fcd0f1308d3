-- Along a unit's grains the modified offer's price never falls and stays within 10^7: a test of the grain's number may turn from true to
-- false once, and what follows it costs no less.
-- Assumes nothing.
use mathlib.Core.Path.{◌≡◌}
use mathlib.Core.Bool.{true, cond}
use Prim.Native.Nat.{ℕ, zero, suc, ◌+◌, ◌-◌, ◌<◌, ◌≤◌}
use native.Mathlib.Decide.{dec_lt}
use native.Mathlib.Omega.{arith}
use borrow.Author.Tests.{lt-ltb, le-ltb}
use lib.Dec.{ltb}
use Rattle.energy.specs.declared.HubKwh.{HubKwh}
use Rattle.energy.specs.Energy.{grains_of}
use Rattle.offer.specs.declared.Offer.{Offer}
use Rattle.offer.specs.Offer.{quantity_at, step_price, offer_holds}
use Rattle.offer.specs.Modified.{price_from, price_at}
use Rattle.offer.proofs.Steps.{Holds, holds}

-- of two prices, the one that a test chooses
chosen_le : (q i a b m : ℕ) → a ≤ m → b ≤ m → cond (ltb i q) a b ≤ m
chosen_le q i a b m la lb = go (dec_lt i q)
  where
    go : Dec (i < q) → cond (ltb i q) a b ≤ m
    go (yes l) = rw (lt-ltb i q l) la
    go (no l) = let n : q ≤ i = omega arith in rw (le-ltb i q n) lb

chosen_ge : (q i a b m : ℕ) → m ≤ a → m ≤ b → m ≤ cond (ltb i q) a b
chosen_ge q i a b m la lb = go (dec_lt i q)
  where
    go : Dec (i < q) → m ≤ cond (ltb i q) a b
    go (yes l) = rw (lt-ltb i q l) la
    go (no l) = let n : q ≤ i = omega arith in rw (le-ltb i q n) lb

-- at the next grain the test may have turned: the price does not fall if the second is at least the first
chosen_rises : (q i a b b' : ℕ) → a ≤ b' → b ≤ b' → cond (ltb i q) a b ≤ cond (ltb (suc i) q) a b'
chosen_rises q i a b b' l l' = go (dec_lt (suc i) q)
  where
    go : Dec (suc i < q) → cond (ltb i q) a b ≤ cond (ltb (suc i) q) a b'
    go (yes h) = let h' : i < q = omega arith in rw (lt-ltb i q h', lt-ltb (suc i) q h) (omega arith)
    go (no h) = let m : q ≤ suc i = omega arith in rw (le-ltb (suc i) q m) (chosen_le q i a b b' l l')

module _ (o : Offer) (h : Holds o) where
  -- no grain's price is below the first step's, or above the last's bound
  from_ge : (s k i : ℕ) → s + k < o.steps → step_price o s ≤ price_from o s k i
  unfolding price_from
  from_ge s zero i l = omega arith
  from_ge s (suc k) i l =
      chosen_ge (grains_of (quantity_at o s)).0 i _ _ (step_price o s) (omega arith)
      (omega (arith, h.price_rises s (omega arith), from_ge (s + 1) k i (omega arith)))

  from_le : (s k i : ℕ) → s + k < o.steps → price_from o s k i ≤ 10000000
  unfolding price_from
  from_le s zero i l = h.price_most s (omega arith)
  from_le s (suc k) i l =
      chosen_le (grains_of (quantity_at o s)).0 i _ _ 10000000 (h.price_most s (omega arith)) (from_le (s + 1) k i (omega arith))

  from_rises : (s k i : ℕ) → s + k < o.steps → price_from o s k i ≤ price_from o s k (suc i)
  unfolding price_from
  from_rises s zero i l = omega arith
  from_rises s (suc k) i l =
      chosen_rises (grains_of (quantity_at o s)).0 i _ _ _
      (omega (arith, h.price_rises s (omega arith), from_ge (s + 1) k (suc i) (omega arith)))
      (from_rises (s + 1) k i (omega arith))

module _ (o : Offer) (t : offer_holds o ≡ true) (commitment : HubKwh) (i : ℕ) where
  pub price_rises : price_at o commitment i ≤ price_at o commitment (suc i)
  unfolding price_at
  price_rises =
      let h = holds o t in
      chosen_rises (grains_of commitment).0 i 0 _ _ (omega arith) (from_rises o h 0 (o.steps - 1) i (omega (arith, h.least)))

  pub price_le : price_at o commitment i ≤ 10000000
  unfolding price_at
  price_le =
      let h = holds o t in
      chosen_le (grains_of commitment).0 i 0 _ 10000000 (omega arith) (from_le o h 0 (o.steps - 1) i (omega (arith, h.least)))
