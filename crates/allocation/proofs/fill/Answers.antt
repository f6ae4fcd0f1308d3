-- The loop's invariant: what is given so far is the definition's, grain by grain, and each unit with room has its next block. A round gives
-- the picked unit a block, or what is left.
-- Assumes nothing.
use mathlib.Core.Path.{◌≡◌, sym, ◌∙◌, ap}
use Prim.Native.Nat.{ℕ, ◌-◌, ◌<◌, ◌≤◌}
use native.Mathlib.Omega.{arith}
use lib.ListN.{length-set, get_or, set, replicate}
use Rattle.finite.proofs.Tables.{tabulate_same, tabulate_replicate}
use Rattle.energy.specs.declared.HubGrains.{HubGrains}
use Rattle.energy.proofs.Order.{gt_true, gt_false, min_amount}
use Rattle.std.specs.declared.option.Option.TheVariants.{Some as at}
use Rattle.allocation.specs.Fill.{grains_at, next_unit, place, fill}
use Rattle.allocation.specs.Allocation.{past_unit, prices_of}
use Rattle.allocation.specs.Blocks.{filling_at, given, HasBlock}
use Rattle.allocation.proofs.Runs.{place_none, none_over}
use Rattle.allocation.proofs.Rounds.{replaced, given_set, given_at, same_pick, known, placed, further}
use Rattle.allocation.proofs.fill.Goals.{After-min-more, In-Some}
use Rattle.allocation.proofs.fill.Goals as goal

-- the unit that gets the next grains, its room, and its block
pick-here : (c : In-Some) → next_unit (prices_of c.args.plant.now.unit) (grains_at c.args.ceilings) 8 (given c.loop-left.fillings) ≡ at c.in-Some.u
pick-here c =
    let a = c.args in
    let l = c.loop-left in
    sym (same_pick a.plant.now.unit a.ceilings l.fillings l.invariant.3) ∙ (sym c.cheapest.ensures.picked ∙ c.in-Some.is)

known-here : (c : In-Some) →
    let f = filling_at c.loop-left.fillings c.in-Some.u in
    (c.in-Some.u < 8) × (f.energy.0 < f.ceiling.0)
known-here c =
    let a = c.args in
    known a.plant.now.unit a.ceilings c.loop-left.fillings c.loop-left.invariant.3 c.in-Some.u (pick-here c)

-- a round gives at least one grain, no more than are left and no more than the block has
more-here : (c : After-min-more) →
    let f = filling_at c.loop-left.fillings c.in-Some.u in
    let m = c.min-more.result.0 in
    (c.in-Some.u < 8) × (f.energy.0 < f.ceiling.0) → (0 < m) × (m ≤ c.loop-left.left.0) × (m ≤ f.next.end.0 - f.energy.0)
more-here c k =
    let l = c.loop-left in
    let b = (l.invariant.3 c.in-Some.u k.0).1 k.1 in
    let some : 0 < l.left.0 = gt_true l.left.0 0 (sym c.gt.ensures ∙ c.loop-left-test.true) in
    let e = c.above.ensures in
    let m = min_amount (λ (g : HubGrains). g.0) _ c.above.result l.left c.min-more.ensures in
    (omega (arith, b.past, some, e, m), omega (arith, m), omega (arith, e, m))

pub loop-left-init : goal.loop-left-init
unfolding place
loop-left-init c =
    let a = c.args in
    let fs = c.unfilled-fillings.result in
    let first = c.unfilled-fillings.ensures in
    let e : 0 ≡ a.total.0 - a.total.0 = omega arith in (
      omega arith,
      first.0,
      tabulate_same 8 (λ k. (filling_at fs k).energy) (λ k. record { 0 = 0 }) (λ k l i. record { 0 = first.2 k l i })
          ∙ tabulate_replicate 8 (record { 0 = 0 })
          ∙ ap (λ (n : ℕ). place (prices_of a.plant.now.unit) (grains_at a.ceilings) 8 n (replicate 8 (record { 0 = 0 }))) e,
      first.1,
    )

pub returns-in_default : goal.returns-in_default
unfolding fill
returns-in_default c =
    let a = c.args in
    let l = c.loop-left in
    let p = prices_of a.plant.now.unit in
    let q =
    sym (same_pick a.plant.now.unit a.ceilings l.fillings l.invariant.3) ∙ (sym c.cheapest.ensures.picked ∙ c.in_default.is) in
    c.energies_of.ensures
    ∙ further p (grains_at a.ceilings) (a.total.0 - l.left.0) l.left.0 a.total.0 (replicate 8 (record { 0 = 0 })) (given l.fillings) (given l.fillings)
    (omega (arith, l.invariant.0)) l.invariant.2 (place_none p (grains_at a.ceilings) 8 (given l.fillings) q l.left.0)

pub plus-grains-requires : goal.plus-grains-requires
plus-grains-requires c =
    let a = c.args in
    let l = c.loop-left in
    let u = c.in-Some.u in
    let k = known-here (goal.at.plus-grains-requires c).In-Some in
    let m = more-here (goal.at.plus-grains-requires c).After-min-more k in
    let has = none_over (prices_of a.plant.now.unit) (grains_at a.ceilings) 8 (a.total.0 - l.left.0) (given l.fillings) u k.0 l.invariant.2 in
    omega (arith, has, given_at a.plant.now.unit a.ceilings l.fillings l.invariant.3 u k.0, m.1, l.invariant.0, c.well_formed)

pub loop-left-smaller : goal.loop-left-smaller
loop-left-smaller c =
    let m = more-here (goal.at.loop-left-smaller c).After-min-more (known-here (goal.at.loop-left-smaller c).In-Some) in
    omega (arith, m, c.above-left.ensures)

pub loop-left-preserved : goal.loop-left-preserved
loop-left-preserved c =
    let a = c.args in
    let l = c.loop-left in
    let u = c.in-Some.u in
    let units = a.plant.now.unit in
    let fs = l.fillings in
    let m = c.min-more.result.0 in
    let grains = c.plus-grains in
    let k = known-here (goal.at.loop-left-preserved c).In-Some in
    let more = more-here (goal.at.loop-left-preserved c).After-min-more k in
    let rest = c.above-left.ensures in
    let p = prices_of units in
    let f = c.of.result in (
      omega (arith, l.invariant.0, rest),
      simp length-set l.invariant.1,
      given_set fs u f l.invariant.1 k.0
          ∙ ap (λ (g : HubGrains). set (given fs) u g) c.of.ensures.1
          ∙ further p (grains_at a.ceilings) (a.total.0 - l.left.0) m (a.total.0 - c.above-left.result.0) (replicate 8 (record { 0 = 0 })) (given fs) _
          (omega (arith, l.invariant.0, more.1, rest)) l.invariant.2
          (placed units a.ceilings fs l.invariant.3 u (pick-here (goal.at.loop-left-preserved c).In-Some) m grains.result more.2 grains.ensures),
      replaced fs u f l.invariant.1 k.0
          (λ v f. (f.ceiling ≡ get_or a.ceilings v (record { 0 = 0 })) × HasBlock (get_or units v past_unit) f)
          (c.of.ensures.0 ∙ (l.invariant.3 u k.0).0, c.of.ensures.2) (λ v q d. l.invariant.3 v q),
    )

pub returns : goal.returns
unfolding fill
returns c =
    let a = c.args in
    let l = c.loop-left in
    let none : l.left.0 ≤ 0 = gt_false l.left.0 0 (sym c.gt.ensures ∙ c.loop-left-test.false) in
    let e : a.total.0 - l.left.0 ≡ a.total.0 = omega (arith, none) in
    c.energies_of-2.ensures
    ∙ l.invariant.2
    ∙ ap (λ (n : ℕ). place (prices_of a.plant.now.unit) (grains_at a.ceilings) 8 n (replicate 8 (record { 0 = 0 }))) e
