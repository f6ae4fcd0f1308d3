-- The type of the book says it.
-- Assumes nothing.
use Rattle.state.proofs.Typed.{typed_sized}
use Rattle.state.proofs.is_sized.Goals as goal

pub returns : goal.returns
returns c = typed_sized c.args.book _ c.well_formed.0
