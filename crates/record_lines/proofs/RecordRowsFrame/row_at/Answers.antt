-- The row goes by how many lines there are. The three returns are the three cases of the definition: fewer blocks than n stand before the line where it lies in one of the n.
-- Assumes nothing.
use native.Mathlib.Omega.{arith}
use mathlib.Core.Path.{◌≡◌, ap, ◌∙◌}
use borrow.Author.Tests.{lt-ltb, le-ltb}
use Prim.Native.Nat.{◌+◌, ◌*◌, ◌≤◌, ◌<◌}
use Rattle.record_lines.specs.Rows.{row_at}
use Rattle.record_lines.proofs.RecordRowsFrame.row_at.Goals as goal

pub returns-then-k-lt3 : goal.returns-then-k-lt3
unfolding row_at
returns-then-k-lt3 c =
    let here : c.head_row.result ≡ row_at c.args.self.now.n c.args.k = simp (lt-ltb _ _ c.if-k-lt3.true) c.head_row.ensures in
    λ lines holds e. here ∙ ap (row_at c.args.self.now.n) e

pub returns-then-k-self : goal.returns-then-k-self
unfolding row_at
returns-then-k-self c =
    let in_block : c.args.k < 3 + 9 * c.args.self.now.n = omega arith in
    let here : c.unit_row.result ≡ row_at c.args.self.now.n c.args.k = simp (le-ltb _ _ c.if-k-lt3.false, lt-ltb _ _ in_block) c.unit_row.ensures in
    λ lines holds e. here ∙ ap (row_at c.args.self.now.n) e

pub returns-else-k-self : goal.returns-else-k-self
unfolding row_at
returns-else-k-self c =
    let behind : 3 + 9 * c.args.self.now.n ≤ c.args.k = omega arith in
    let here : c.end_row.result ≡ row_at c.args.self.now.n c.args.k = simp (le-ltb _ _ c.if-k-lt3.false, le-ltb _ _ behind) c.end_row.ensures in
    λ lines holds e. here ∙ ap (row_at c.args.self.now.n) e
