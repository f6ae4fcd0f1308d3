-- The head, a block for each unit and the end are read from the start, where nothing is kept yet.
-- Assumes nothing.
use mathlib.Core.Path.{ap}
use native.Mathlib.Omega.{arith}
use Rattle.lines.specs.declared.Cursor.{Cursor}
use Rattle.lines.specs.Lines.{begin}
use Rattle.lines.proofs.Shown.{none_kept}
use Rattle.record_lines.specs.Rows.{read_lines}
use Rattle.record_lines.proofs.read_lines.Goals as goal

pub returns : goal.returns
unfolding read_lines
returns c =
    let m = c.read_more in
    let none = none_kept c.args.kept.now in
    record {
      cursor = m.ensures.cursor begin c.start.ensures none;
      kept = λ s e. m.ensures.kept begin s c.start.ensures none e;
      lines_bound = omega (arith, m.ensures.lines_most, ap (λ (x : Cursor). x.lines) c.start.ensures, c.requires.n_bound);
      refused = λ r e. m.ensures.refused begin r c.start.ensures none e;
      behind = m.ensures.behind.1;
    }
