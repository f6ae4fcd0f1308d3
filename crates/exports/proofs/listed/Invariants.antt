use mathlib.Core.Path.{◌≡◌}
use Rattle.exports.specs.Exports.{listed_to}
use Rattle.exports.proofs.listed.Given as goal

abbrev pub invariant-loop-k : goal.invariant-loop-k
invariant-loop-k l = l.out ≡ listed_to l.initial.out l.list l.k
