use Rattle.finite.specs.Finite.{tabulate}
use Rattle.apportion.specs.Shares.{quotient}
use lib.ListN.{length, take}
use mathlib.Core.Path.{◌≡◌}
use Rattle.apportion.proofs.Division.quotients.Given as goal

abbrev pub invariant-loop-i : goal.invariant-loop-i
invariant-loop-i l =
    (length l.shares ≡ length l.self.weights.now) × (take l.i l.shares ≡ tabulate l.i (quotient l.self.all l.self.total l.self.weights.now))
