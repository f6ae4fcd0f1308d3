-- The row, field by field.
-- Assumes nothing.
use Rattle.record_lines.specs.Rows.{spans_row}
use borrow.Author.Rules.{rules}
use Rattle.record_lines.proofs.spans_row.Goals as goal

pub returns : goal.returns
unfolding spans_row
returns c = search rules
