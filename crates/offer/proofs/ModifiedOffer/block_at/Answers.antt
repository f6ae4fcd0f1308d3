-- Below the commitment the block ends there at the latest, in a step before the last at the step's quantity, in the last step at the limit.
-- Assumes nothing.
use mathlib.Core.Path.{ap}
use Prim.Native.Nat.{◌≤◌, ◌<◌, ◌-◌}
use native.Mathlib.Omega.{arith}
use Rattle.energy.specs.declared.HubGrains.{HubGrains}
use Rattle.energy.specs.Energy.{grains_of}
use Rattle.energy.proofs.Order.{lt_true, lt_false, min_amount}
use Rattle.offer.proofs.Blocks.{committed_block, step_block, last_block}
use Rattle.offer.proofs.ModifiedOffer.block_at.Goals.{Else-lt}
use Rattle.offer.proofs.ModifiedOffer.block_at.Goals as goal

-- past the commitment
past : (c : Else-lt) → (grains_of c.args.self.now.commitment).0 ≤ c.args.i.0
past c = let e = ap (λ (g : HubGrains). g.0) c.grains_of-committed.ensures in grind (arith, lt_false)

pub returns-then-lt : goal.returns-then-lt
returns-then-lt c =
    let a = c.args in
    let m = a.self.now in
    let e = ap (λ (g : HubGrains). g.0) c.grains_of-committed.ensures in
    let l = min_amount (λ (g : HubGrains). g.0) _ c.grains_of-committed.result a.limit c.min.ensures in
    committed_block m.offer.now m.commitment a.i.0 a.limit.0 c.min.result.0 (grind (arith, lt_true)) (omega arith) (omega arith)

pub returns-then-s-self : goal.returns-then-s-self
returns-then-s-self c =
    let a = c.args in
    let m = a.self.now in
    let s = c.step_at-s.result in
    let q = ap (λ (g : HubGrains). g.0) c.grains_of.ensures in
    let e = min_amount (λ (g : HubGrains). g.0) _ c.grains_of.result a.limit c.min-then-s-self.ensures in
    let before : s < m.offer.now.steps - 1 = omega (arith, c.if-s-self.true) in
    step_block m.offer.now m.commitment a.i.0 a.limit.0 s c.min-then-s-self.result.0
    (past (goal.at.returns-then-s-self c).Else-lt) c.step_at-s.ensures before
    (omega (arith, c.requires, c.step_at-s.ensures.ends before)) (omega arith) (omega arith)

pub returns : goal.returns
returns c =
    let a = c.args in
    let m = a.self.now in
    last_block m.offer.now m.commitment a.i.0 a.limit.0 c.step_at-s.result (past (goal.at.returns c).Else-lt) c.step_at-s.ensures
    (omega (arith, c.if-s-self.false)) c.requires
