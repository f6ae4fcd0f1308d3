-- The row as it is written.
-- Assumes nothing.
use mathlib.Core.Path.{refl}
use Rattle.sheet_lines.specs.Rows.{offer_row}
use Rattle.sheet_lines.proofs.offer_row.Goals as goal

pub returns : goal.returns
unfolding offer_row
returns c = refl
