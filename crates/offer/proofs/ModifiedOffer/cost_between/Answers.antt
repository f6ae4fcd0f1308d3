-- The loop keeps that the cost so far and that by the steps from s on are the whole: a turn adds the step's grains at its price, and in the
-- last step all that are left. The whole is at most 10^7 a grain, 10^18 in all, so nothing wraps.
-- Assumes nothing.
use mathlib.Core.Path.{◌≡◌, refl, ap, ap₂, sym, ◌∙◌}
use Prim.Native.Nat.{ℕ, ◌+◌, ◌*◌, ◌-◌, max}
use native.Mathlib.Omega.{arith}
use Rattle.energy.specs.declared.HubGrains.{HubGrains}
use Rattle.energy.specs.Energy.{grains_of}
use Rattle.energy.proofs.Order.{min_amount, max_amount}
use Rattle.offer.specs.Offer.{step_price}
use Rattle.offer.specs.Modified.{cost_between}
use Rattle.offer.proofs.Costs.{cost_between_le}
use Rattle.offer.proofs.Quick.{cost_on, cost_steps, cost_next, cost_last}
use Rattle.offer.proofs.ModifiedOffer.cost_between.Goals.{After-above, After-above-2, After-max-at}
use Rattle.offer.proofs.ModifiedOffer.cost_between.Goals as goal

-- the cost is that of the steps, from `from` or the commitment on, and bounded
total : (c : After-max-at) → cost_between c.args.self.now.offer.now c.args.self.now.commitment c.args.from.0 c.args.to.0 ≡ cost_on c.args.self.now.offer.now 0 c.max-at.result.0 c.args.to.0
total c =
    let a = c.args in
    let g = ap (λ (n : HubGrains). n.0) c.grains_of-committed.ensures in
    let e : max a.from.0 (grains_of a.self.now.commitment).0 ≡ c.max-at.result.0 = omega (arith, max_amount (λ (g : HubGrains). g.0) _ a.from c.grains_of-committed.result c.max-at.ensures) in
    cost_steps a.self.now.offer.now a.self.now.commitment a.from.0 a.to.0 c.requires.0 ∙ ap (λ (n : ℕ). cost_on a.self.now.offer.now 0 n a.to.0) e

pub loop-s-init : goal.loop-s-init
loop-s-init c =
    let a = c.args in
    let m = a.self.now in
    (omega arith, omega (arith, total c, cost_between_le m.offer.now m.commitment m.holds.0 a.from.0 a.to.0 c.requires.0, c.requires.1))

-- a turn: the step's grains, then the later steps from the place `next` on
turn : (c : After-above) (next : ℕ) → next ≡ max c.loop-s.at.0 c.grains_of-end.result.0 → cost_on c.args.self.now.offer.now c.loop-s.s c.loop-s.at.0 c.args.to.0 ≡ c.above.result.0 * step_price c.args.self.now.offer.now c.loop-s.s + cost_on c.args.self.now.offer.now (c.loop-s.s + 1) next c.args.to.0
turn c next e =
    let a = c.args in
    let l = c.loop-s in
    let q = ap (λ (n : HubGrains). n.0) c.grains_of-end.ensures in
    cost_next a.self.now.offer.now l.s l.at.0 a.to.0 c.above.result.0 next c.loop-s-test.true
    (omega (arith, c.above.ensures, min_amount (λ (g : HubGrains). g.0) _ c.grains_of-end.result a.to c.min.ensures)) (omega (arith, q, e))

pub product-cost-requires : goal.product-cost-requires
product-cost-requires c = omega (arith, turn (goal.at.product-cost-requires c).After-above _ refl, c.loop-s.invariant)

pub overflow_add-cost : goal.overflow_add-cost
overflow_add-cost c = omega (arith, c.product-cost.ensures, turn (goal.at.overflow_add-cost c).After-above _ refl, c.loop-s.invariant)

pub loop-s-preserved : goal.loop-s-preserved
loop-s-preserved c =
    let i = c.loop-s.invariant in
    (omega (arith, c.product-cost.ensures, turn (goal.at.loop-s-preserved c).After-above c.max-at-in-loop-s.result.0 (max_amount (λ (g : HubGrains). g.0) _ c.loop-s.at c.grains_of-end.result c.max-at-in-loop-s.ensures)), i.1)

-- the last step, with all grains that are left
left : (c : After-above-2) → cost_on c.args.self.now.offer.now c.loop-s.s c.loop-s.at.0 c.args.to.0 ≡ c.above-2.result.0 * step_price c.args.self.now.offer.now (c.args.self.now.offer.now.steps - 1)
left c =
    let a = c.args in
    let l = c.loop-s in
    let last : l.s ≡ a.self.now.offer.now.steps - 1 = omega arith in
    cost_last a.self.now.offer.now l.s l.at.0 a.to.0 (omega arith) ∙ ap₂ (λ (n s : ℕ). n * step_price a.self.now.offer.now s) (sym c.above-2.ensures) last

pub product-requires : goal.product-requires
product-requires c = omega (arith, left (goal.at.product-requires c).After-above-2, c.loop-s.invariant)

pub overflow_add-result : goal.overflow_add-result
overflow_add-result c = omega (arith, c.product.ensures, left (goal.at.overflow_add-result c).After-above-2, c.loop-s.invariant)

pub returns : goal.returns
returns c = omega (arith, c.product.ensures, total (goal.at.returns c).After-max-at, left (goal.at.returns c).After-above-2, c.loop-s.invariant)
