-- The row is written out.
-- Assumes nothing.
use Rattle.day_calls.specs.DayCalls.{take_row}
use mathlib.Core.Path.{refl}
use Rattle.day_calls.proofs.take_row.Goals as goal

pub returns : goal.returns
unfolding take_row
returns c = refl
