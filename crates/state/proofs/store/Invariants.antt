use Rattle.state.proofs.Entries.{Stored}
use Rattle.state.proofs.store.Given as goal

abbrev pub invariant-loop-k : goal.invariant-loop-k
invariant-loop-k g l = (none : g.row.T.Denot) → Stored none l.h l.units l.new l.initial.all l.k l.all
