use mathlib.Core.Path.{◌≡◌}
use lib.ListN.{get_or}
use Rattle.exports.specs.Exports.{put}
use Rattle.exports.proofs.store_all.Given as goal

abbrev pub invariant-loop-k : goal.invariant-loop-k
invariant-loop-k g l = (none : g.row.T.Denot) → l.out ≡ put l.initial.out l.from (λ j. get_or l.list j none) l.k
