use Rattle.apportion.specs.Shares.{remainder_left, largest, quotient, remainder}
use mathlib.Core.Path.{◌≡◌}
use Rattle.apportion.proofs.Division.largest.Given as goal

abbrev pub invariant-loop-i : goal.invariant-loop-i
invariant-loop-i l =
    let q = quotient l.self.all l.self.total l.self.weights.now in
    let r = remainder l.self.all l.self.total l.self.weights.now in
    (l.part ≡ largest q r l.shares l.i) × (l.most ≡ remainder_left q r l.shares l.part)
