use Rattle.apportion.specs.Shares.{quotient, remainder, add_ones}
use lib.ListN.{length}
use mathlib.Core.Path.{◌≡◌}
use Rattle.apportion.proofs.Division.add_ones.Given as goal

abbrev pub invariant-loop-added : goal.invariant-loop-added
invariant-loop-added l =
    let w = l.self.weights.now in
    (length l.shares ≡ length w)
    × (l.shares ≡ add_ones (quotient l.self.all l.self.total w) (remainder l.self.all l.self.total w) (length w) l._added l.initial.shares)
