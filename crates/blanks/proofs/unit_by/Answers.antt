-- The values are those of the block's lines.
-- Assumes nothing.
use Rattle.std.proofs.Common.{rules}
use Prim.Native.Nat.{ℕ, ◌+◌}
use mathlib.Core.Path.{◌≡◌, ap, sym, ◌∙◌}
use native.Mathlib.Nat.{add-zero}
use Rattle.finite.specs.Finite.{tabulate}
use Rattle.finite.proofs.Chains.{tabulate_from_fn}
use Rattle.lines.specs.Cells.{line_in}
use Rattle.blanks.specs.Blanks.{value_or, span_by}
use Rattle.record_lines.specs.Rows.{block_line}
use Rattle.blanks.proofs.Block.{unit_made}
use Rattle.blanks.proofs.unit_by.Goals as goal

pub returns : goal.returns
returns c =
    let g = c.args in
    let f = line_in g.kept.now in
    let span : c.from_fn.result ≡ tabulate 6 (span_by (f (block_line g.j + 8)) (record { 0 = c.value_or.result })) =
    tabulate_from_fn (span_by (f (block_line g.j + 8)) (record { 0 = c.value_or.result })) _ _ c.from_fn.ensures.items (λ i y q l k. search rules) in
    unit_made f g.j g.monthly _ _ _ _ _ _ _ _ _ _
    (c.value_or.ensures ∙ ap (λ (k : ℕ). value_or g.monthly.0 (f k)) (sym (add-zero (block_line g.j))))
    c.value_or-2.ensures
    c.value_or-3.ensures
    c.value_or-4.ensures
    c.value_or-5.ensures
    (c.reading_by.ensures _ c.given.ensures)
    c.value_or-6.ensures
    c.value_or-7.ensures
    (c.spans_by.ensures _ c.given-spans.ensures)
    span
