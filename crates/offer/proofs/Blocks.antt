-- The blocks of a modified offer: a grain below the commitment costs nothing; past it the steps are passed one by one until one reaches
-- beyond the grain, and the last one has no end.
-- Assumes nothing.
use mathlib.Core.Path.{◌≡◌, ◌∙◌, ap, sym}
use Prim.Native.Nat.{ℕ, zero, suc, ◌+◌, ◌-◌, ◌<◌, ◌≤◌}
use native.Mathlib.Omega.{arith}
use borrow.Author.Tests.{lt-ltb, le-ltb}
use Rattle.energy.specs.declared.HubKwh.{HubKwh}
use Rattle.energy.specs.Energy.{grains_of}
use Rattle.offer.specs.declared.Offer.{Offer}
use Rattle.offer.specs.Offer.{quantity_at, step_price}
use Rattle.offer.specs.Modified.{price_from, price_at, IsBlock, OnStep}

module _ (o : Offer) where
  -- a step that ends at or before grain j is passed
  passed : (s k j : ℕ) → 0 < k → (grains_of (quantity_at o s)).0 ≤ j → price_from o s k j ≡ price_from o (s + 1) (k - 1) j
  unfolding price_from
  passed s zero j l h = absurd (omega arith)
  passed s (suc k) j l h =
      let e : k ≡ suc k - 1 = omega arith in
      rw (le-ltb j (grains_of (quantity_at o s)).0 h) (ap (λ (n : ℕ). price_from o (s + 1) n j) e)

  -- grain j falls in step s
  inside : (s k j : ℕ) → 0 < k → j < (grains_of (quantity_at o s)).0 → price_from o s k j ≡ step_price o s
  unfolding price_from
  inside s zero j l h = absurd (omega arith)
  inside s (suc k) j l h = rw (lt-ltb j (grains_of (quantity_at o s)).0 h)

  final : (s k j : ℕ) → k ≡ 0 → price_from o s k j ≡ step_price o s
  unfolding price_from
  final s k j e = ap (λ (n : ℕ). price_from o s n j) e

  -- the walk over the steps: from grain i on, those before s do not matter
  abbrev pub Passed : ℕ → ℕ → Type 0
  Passed i s = (j : ℕ) → i ≤ j → price_from o 0 (o.steps - 1) j ≡ price_from o s (o.steps - 1 - s) j

  pub onward : (i s : ℕ) → s < o.steps - 1 → (grains_of (quantity_at o s)).0 ≤ i → Passed i s → Passed i (s + 1)
  onward i s l q h j lj =
      let e : o.steps - 1 - s - 1 ≡ o.steps - 1 - (s + 1) = omega arith in
      h j lj
      ∙ passed s (o.steps - 1 - s) j (omega arith) (omega arith)
      ∙ ap (λ (n : ℕ). price_from o (s + 1) n j) e

  -- each of the first s steps ends at or before grain i
  pub passed_all : (i s : ℕ) → s ≤ o.steps - 1 → ((t : ℕ) → t < s → (grains_of (quantity_at o t)).0 ≤ i) → Passed i s
  passed_all i zero l ends j k = let e : o.steps - 1 - 0 ≡ o.steps - 1 = omega arith in ap (λ (n : ℕ). price_from o 0 n j) (sym e)
  passed_all i (suc s) l ends j k =
      let e : suc s ≡ s + 1 = omega arith in
      rw e (onward i s (omega arith) (ends s (omega arith)) (passed_all i s (omega arith) (λ t m. ends t (omega arith))) j k)

  module _ (commitment : HubKwh) where
    -- below the commitment the price is 0, past it the step's
    pub committed : (j : ℕ) → j < (grains_of commitment).0 → price_at o commitment j ≡ 0
    unfolding price_at
    committed j h = rw (lt-ltb j (grains_of commitment).0 h)

    pub uncommitted : (j : ℕ) → (grains_of commitment).0 ≤ j → price_at o commitment j ≡ price_from o 0 (o.steps - 1) j
    unfolding price_at
    uncommitted j h = rw (le-ltb j (grains_of commitment).0 h)

    pub committed_block : (i limit end : ℕ) → i < end → end ≤ limit → end ≤ (grains_of commitment).0 → IsBlock o commitment i limit 0 end
    committed_block i limit end l w h = record { past = l; within = w; flat = λ j k m. committed j (omega arith) }

    pub step_block : (i limit s end : ℕ) → (grains_of commitment).0 ≤ i → OnStep o i s → s < o.steps - 1 → i < end → end ≤ limit → end ≤ (grains_of (quantity_at o s)).0 → IsBlock o commitment i limit (step_price o s) end
    step_block i limit s end c on ls l w h =
        record {
          past = l;
          within = w;
          flat =
              λ j k m.
              uncommitted j (omega arith) ∙ on.rest j k ∙ inside s (o.steps - 1 - s) j (omega arith) (omega arith);
        }

    pub last_block : (i limit s : ℕ) → (grains_of commitment).0 ≤ i → OnStep o i s → o.steps - 1 ≤ s → i < limit → IsBlock o commitment i limit (step_price o s) limit
    last_block i limit s c on ls l =
        record {
          past = l;
          within = omega arith;
          flat = λ j k m. uncommitted j (omega arith) ∙ on.rest j k ∙ final s (o.steps - 1 - s) j (omega arith);
        }
