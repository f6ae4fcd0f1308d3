-- The loop's invariant: the shares are the definition's after `added` times. What `Due` says of the shares at first gives that the
-- part with the largest remainder is there and that its share stays within the total.
-- Assumes nothing.
use Rattle.apportion.proofs.Steps.{due_some, due_room}
use Rattle.apportion.proofs.Ones.{add_ones_next}
use Rattle.apportion.specs.Shares.{quotient, remainder, add_ones, largest, one_more}
use lib.ListN.{length, length-set, get_or}
use native.Mathlib.Omega.{arith}
use Prim.Native.Nat.{ℕ, ◌≤◌, ◌<◌, ◌+◌}
use mathlib.Core.List.{List}
use mathlib.Core.Path.{refl, ap, sym, subst, ◌∙◌}
use Rattle.apportion.proofs.Division.add_ones.Goals.{After-largest-part}
use Rattle.apportion.proofs.Division.add_ones.Goals as goal

-- the part is there, and its share stays within the total
here : (c : After-largest-part) →
    let d = c.args.self.now in
    let b = c.largest-part.result in
    (b < length d.weights.now) × (get_or c.loop-added.shares b 0 + 1 ≤ d.total)
here c =
    let g = c.args in
    let d = g.self.now in
    let l = c.loop-added in
    let w = d.weights.now in
    let q = quotient d.all d.total w in
    let r = remainder d.all d.total w in
    let m = due_room w d.total d.all g.rest g.shares.now c.requires l._added (omega arith) in
    let m' = subst (λ (x : List ℕ). (largest q r x (length w) < length w) × (get_or x (largest q r x (length w)) 0 + 1 ≤ d.total)) (sym l.invariant.1) (m.1, m.2) in
    subst (λ (b : ℕ). (b < length w) × (get_or l.shares b 0 + 1 ≤ d.total)) (sym c.largest-part.ensures) m'

pub loop-added-init : goal.loop-added-init
unfolding add_ones
loop-added-init c = ((due_some _ _ _ _ _ c.requires).0, refl)

pub largest-part-requires : goal.largest-part-requires
largest-part-requires c = (c.loop-added.invariant.0, (due_some _ _ _ _ _ c.requires).1)

pub offset_bounds-shares-part : goal.offset_bounds-shares-part
offset_bounds-shares-part c = omega (arith, here c, c.loop-added.invariant.0, c.well_formed)

pub bounds-shares-part : goal.bounds-shares-part
bounds-shares-part c = omega (arith, here (goal.at.bounds-shares-part c).After-largest-part, c.loop-added.invariant.0)

pub overflow_add-shares : goal.overflow_add-shares
overflow_add-shares c = omega (arith, here (goal.at.overflow_add-shares c).After-largest-part)

pub bounds-shares-part-in-loop-added : goal.bounds-shares-part-in-loop-added
bounds-shares-part-in-loop-added c = omega (arith, here (goal.at.bounds-shares-part-in-loop-added c).After-largest-part, c.loop-added.invariant.0)

pub loop-added-preserved : goal.loop-added-preserved
loop-added-preserved c =
    let g = c.args in
    let d = g.self.now in
    let l = c.loop-added in
    let w = d.weights.now in
    let q = quotient d.all d.total w in
    let r = remainder d.all d.total w in (
      simp length-set l.invariant.0,
      ap (λ (b : ℕ). one_more l.shares b) c.largest-part.ensures
          ∙ (ap (λ (x : List ℕ). one_more x (largest q r x (length w))) l.invariant.1
          ∙ sym (add_ones_next q r (length w) l._added g.shares.now)),
    )
