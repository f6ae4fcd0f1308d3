-- The row as it is written.
-- Assumes nothing.
use Rattle.sheet_lines.specs.Rows.{end_row}
use Rattle.sheet_lines.proofs.end_row.Goals as goal

pub returns : goal.returns
unfolding end_row
returns c = c.word_row.ensures
