-- The row of the last line.
-- Assumes nothing.
use Rattle.record_lines.specs.Rows.{end_row}
use Rattle.record_lines.proofs.end_row.Goals as goal

pub returns : goal.returns
unfolding end_row
returns c = c.word_row.ensures
