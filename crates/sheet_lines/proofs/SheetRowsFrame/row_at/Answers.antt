-- What is kept tells the month and the units as the lines do; the three returns are the three cases of the definition.
-- Assumes nothing.
use mathlib.Core.Path.{◌≡◌, sym, ◌∙◌}
use lib.ListN.{get_or}
use Rattle.lines.specs.Lines.{number_of}
use Rattle.lines.specs.Cells.{line_in}
use Rattle.sheet_lines.specs.Rows.{head_rows, end_row}
use Rattle.sheet_lines.proofs.Due.{head_at, block_at, end_at, row_due}
use Rattle.sheet_lines.proofs.SheetRowsFrame.row_at.Goals as goal

pub returns-then-k-lt30 : goal.returns-then-k-lt30
returns-then-k-lt30 c =
    λ lines holds e. let a = c.args in
    let row : c.head_row.result ≡ get_or (head_rows (number_of (line_in a.kept.now 0))) a.k end_row = cc in
    row ∙ (sym (head_at (number_of (line_in a.kept.now 0)) _ a.k c.if-k-lt30.true) ∙ row_due a.kept.now lines a.k holds c.requires e)

pub returns-then-k-units_read : goal.returns-then-k-units_read
returns-then-k-units_read c =
    λ lines holds e. let a = c.args in
    c.unit_row.ensures
    ∙ (sym (block_at (number_of (line_in a.kept.now 0)) _ a.k c.if-k-lt30.false (rw c.units_read.ensures.value at c.if-k-units_read.true))
    ∙ row_due a.kept.now lines a.k holds c.requires e)

pub returns-else-k-units_read : goal.returns-else-k-units_read
returns-else-k-units_read c =
    λ lines holds e. let a = c.args in
    c.end_row.ensures
    ∙ (sym (end_at (number_of (line_in a.kept.now 0)) _ a.k c.if-k-lt30.false (rw c.units_read.ensures.value at c.if-k-units_read.false))
    ∙ row_due a.kept.now lines a.k holds c.requires e)
