use mathlib.Core.Path.{◌≡◌}
use Rattle.exports.specs.Exports.{amounts_to}
use Rattle.exports.proofs.put_amounts.Given as goal

abbrev pub invariant-loop-k : goal.invariant-loop-k
invariant-loop-k l = l.out ≡ amounts_to l.book l.initial.out l.k
