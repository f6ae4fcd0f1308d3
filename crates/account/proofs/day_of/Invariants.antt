use Prim.Native.Nat.{◌-◌}
use Rattle.account.specs.Day.{most_calls}
use Rattle.account.proofs.Underway.{Underway}
use Rattle.account.proofs.day_of.Given as goal

abbrev pub invariant-loop : goal.invariant-loop
invariant-loop l = Underway l.sheet l.text l.at (most_calls l.text - l.counter) l.accounts l.due
