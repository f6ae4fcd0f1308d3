-- The loop's invariant: `found` is the best of the units passed, with the price of its next block.
-- Assumes nothing.
use Rattle.std.proofs.Common.{rules}
use mathlib.Core.Path.{◌≡◌, refl, sym, ◌∙◌, ap}
use mathlib.Core.Bool.{true, false}
use Rattle.allocation.specs.Fill.{best}
use Rattle.allocation.specs.Blocks.{next_price, has_room as room_at, priced}
use Rattle.allocation.proofs.Best.{best_below}
use Rattle.allocation.proofs.Rounds.{best_free, best_full}
use Rattle.allocation.proofs.cheapest.Goals.{then-has_room, else-has_room}
use Rattle.allocation.proofs.cheapest.Goals as goal

pub loop-v-init : goal.loop-v-init
unfolding best
loop-v-init c = refl

pub loop-v-preserved : goal.loop-v-preserved
loop-v-preserved c =
    let l = c.loop-v in
    let room = room_at c.args.fillings.now in
    let next = next_price c.args.fillings.now in
    elim c.if-has_room.branch [
      | then-has_room w ↦ let free : room l.v ≡ true = sym c.has_room.ensures ∙ w.if-has_room.true in
          w.found-is ∙ (w.better_of-found.ensures next (best next room l.v) refl l.invariant ∙ ap (priced next) (best_free next room l.v free))
      | else-has_room w ↦ let full : room l.v ≡ false = sym c.has_room.ensures ∙ w.if-has_room.false in
          w.found-is ∙ (l.invariant ∙ ap (priced next) (best_full next room l.v full))
    ]

pub returns-clause-below : goal.returns-clause-below
returns-clause-below c =
    let room = room_at c.args.fillings.now in
    let next = next_price c.args.fillings.now in
    let picked : c.map.result ≡ best next room 8 = search rules in
    λ u e. best_below next room 8 u (sym picked ∙ e)
