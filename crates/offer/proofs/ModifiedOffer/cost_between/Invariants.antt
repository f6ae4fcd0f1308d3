use mathlib.Core.Path.{◌≡◌}
use Prim.Native.Nat.{◌+◌, ◌≤◌}
use Rattle.offer.proofs.Quick.{cost_on}
use Rattle.offer.proofs.ModifiedOffer.cost_between.Given as goal

abbrev pub invariant-loop-s : goal.invariant-loop-s
invariant-loop-s l =
    (l.cost + cost_on l.self.offer.now l.s l.at.0 l.to.0 ≡ cost_on l.self.offer.now 0 l.initial.at.0 l.to.0)
    × (cost_on l.self.offer.now 0 l.initial.at.0 l.to.0 ≤ 1000000000000000000)
