use Rattle.decimal.specs.Writer.{Wrote}
use Rattle.listing.specs.Listing.{joined}
use Rattle.daybook.specs.Replay.{course, listed_total}
use Rattle.daybook.proofs.Replay.put_last_tables.Given as goal

abbrev pub invariant-loop-n : goal.invariant-loop-n
invariant-loop-n l = Wrote l.initial.out l.out (joined l.n (listed_total l.self.accounts.sheet.now (course l.self)))
