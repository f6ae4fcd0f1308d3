use Rattle.decimal.specs.Writer.{Wrote}
use Rattle.listing.specs.Listing.{joined}
use Rattle.entries.proofs.Commitments.{entry_commitment}
use Rattle.entries.proofs.put_commitments.Given as goal

abbrev pub invariant-loop-e : goal.invariant-loop-e
invariant-loop-e l = Wrote l.fn.out l.out (joined l.e (entry_commitment l.book))
