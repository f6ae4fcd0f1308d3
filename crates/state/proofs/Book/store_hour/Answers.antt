-- The two lists are stored, and the mark is the number of the hour's state.
-- Assumes nothing.
use Rattle.std.proofs.Common.{rules}
use Rattle.state.specs.Book.{with_hour}
use Rattle.state.proofs.Book.store_hour.Goals as goal

pub returns : goal.returns
unfolding with_hour
returns c = search rules
