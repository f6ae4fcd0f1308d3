-- What the test of an offer says, step by step, and back: each `every` holds exactly where its test holds of each step.
-- Assumes nothing.
use mathlib.Core.Path.{◌≡◌}
use mathlib.Core.Bool.{true, ◌&&◌}
use Prim.Native.Nat.{ℕ, ◌+◌, ◌-◌, ◌≤◌, ◌<◌}
use native.Mathlib.Omega.{arith}
use borrow.Author.Tests.{ltb-true, leb-true, lt-ltb, le-leb}
use lib.Dec.{ltb, leb}
use Rattle.finite.specs.Finite.{every}
use Rattle.finite.proofs.Tests.{and_left, and_right, and_both, every_at, every_all}
use Rattle.offer.specs.declared.Step.{Step}
use Rattle.offer.specs.declared.Offer.{Offer}
use Rattle.offer.specs.Offer.{quantity_at, step_price, steps_allowed, in_range, step_in_range, in_order, step_in_order, offer_holds, last_quantity}

-- what an offer that passes its test keeps
pub record Holds (o : Offer) : Type 0 where
  pub least : 1 ≤ o.steps
  pub most : o.steps ≤ 10
  pub quantity_least : (s : ℕ) → s < o.steps → 1 ≤ (quantity_at o s).0
  pub quantity_most : (s : ℕ) → s < o.steps → (quantity_at o s).0 ≤ 1000000
  pub price_most : (s : ℕ) → s < o.steps → step_price o s ≤ 10000000
  pub quantity_rises : (s : ℕ) → s + 1 < o.steps → (quantity_at o s).0 < (quantity_at o (s + 1)).0
  pub price_rises : (s : ℕ) → s + 1 < o.steps → step_price o s ≤ step_price o (s + 1)

-- the tests of the number of steps, of a step and of two neighbours, as facts
pub allowed : (steps : ℕ) → steps_allowed steps ≡ true → (1 ≤ steps) × (steps ≤ 10)
unfolding steps_allowed
allowed steps t = (leb-true _ _ (and_left _ _ t), leb-true _ _ (and_right (leb 1 steps) _ t))

range_facts : (step : Step) → in_range step ≡ true → (1 ≤ step.quantity.0) × (step.quantity.0 ≤ 1000000) × (step.price ≤ 10000000)
unfolding in_range
range_facts step t =
    let q = step.quantity.0 in
    let range = and_left _ _ t in
    (leb-true _ _ (and_left _ _ range), leb-true _ _ (and_right (leb 1 q) _ range), leb-true _ _ (and_right (leb 1 q && leb q 1000000) _ t))

order_facts : (step next : Step) → in_order step next ≡ true → (step.quantity.0 < next.quantity.0) × (step.price ≤ next.price)
unfolding in_order
order_facts step next t =
    (ltb-true _ _ (and_left _ _ t), leb-true _ _ (and_right (ltb step.quantity.0 next.quantity.0) _ t))

module _ (o : Offer) where
  pub holds : offer_holds o ≡ true → Holds o
  unfolding offer_holds
  holds t =
      let number = and_left _ _ t in
      let steps = and_right (steps_allowed o.steps) _ t in
      let range : (s : ℕ) → s < o.steps → step_in_range o s ≡ true = every_at o.steps (step_in_range o) (and_left _ _ steps) in
      let order : (s : ℕ) → s < o.steps - 1 → step_in_order o s ≡ true = every_at (o.steps - 1) (step_in_order o) (and_right (every o.steps (step_in_range o)) _ steps) in
      record {
        least = (allowed o.steps number).0;
        most = (allowed o.steps number).1;
        quantity_least = λ s l. (range_facts _ (range s l)).0;
        quantity_most = λ s l. (range_facts _ (range s l)).1;
        price_most = λ s l. (range_facts _ (range s l)).2;
        quantity_rises = λ s l. (order_facts _ _ (order s (omega arith))).0;
        price_rises = λ s l. (order_facts _ _ (order s (omega arith))).1;
      }

  pub holds_back : Holds o → offer_holds o ≡ true
  unfolding offer_holds steps_allowed in_range in_order
  holds_back h =
      and_both _ _ (and_both _ _ (le-leb 1 o.steps h.least) (le-leb o.steps 10 h.most))
      (and_both _ _
      (every_all o.steps (step_in_range o)
      (λ s l.
      and_both _ _ (and_both _ _ (le-leb _ _ (h.quantity_least s l)) (le-leb _ _ (h.quantity_most s l)))
      (le-leb _ _ (h.price_most s l))))
      (every_all (o.steps - 1) (step_in_order o)
      (λ s l.
      let k : s + 1 < o.steps = omega arith in
      and_both _ _ (lt-ltb _ _ (h.quantity_rises s k)) (le-leb _ _ (h.price_rises s k)))))

  -- the last quantity is that of the last step, and within 1 to 10^6
  pub last_is : Holds o → last_quantity o ≡ quantity_at o (o.steps - 1)
  unfolding last_quantity steps_allowed
  last_is h =
      let number = and_both _ _ (le-leb 1 o.steps h.least) (le-leb o.steps 10 h.most) in
      rw number

  pub last_most : Holds o → (last_quantity o).0 ≤ 1000000
  last_most h = rw (last_is h) (h.quantity_most (o.steps - 1) (omega (arith, h.least)))

  pub last_least : Holds o → 1 ≤ (last_quantity o).0
  last_least h = rw (last_is h) (h.quantity_least (o.steps - 1) (omega (arith, h.least)))
