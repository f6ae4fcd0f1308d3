use Prim.Native.Nat.{◌-◌}
use Rattle.state.specs.Book.{hour_amounts}
use Rattle.postings.proofs.Appended.{Appended}
use Rattle.postings.proofs.post_hour.Given as goal

abbrev pub invariant-loop-k : goal.invariant-loop-k
invariant-loop-k l = Appended l.initial.list l.at l.hour l.units (hour_amounts l.book (l.hour - 1)) l.new l.k l.next l.list
