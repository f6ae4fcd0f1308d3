-- The offers are made by index, from the lines of the block.
-- Assumes nothing.
use Rattle.std.proofs.Common.{rules}
use Prim.Native.Nat.{◌+◌}
use mathlib.Core.Path.{◌≡◌}
use Rattle.finite.specs.Finite.{tabulate}
use Rattle.finite.proofs.Chains.{tabulate_from_fn}
use Rattle.lines.specs.Cells.{line_in}
use Rattle.lines.specs.Lines.{number_of}
use Rattle.sheet_lines.specs.Rows.{block_line}
use Rattle.sheet_text.specs.Day.{offer_by, unit_by}
use Rattle.sheet_text.proofs.unit_by.Goals as goal

pub returns : goal.returns
unfolding unit_by
returns c =
    let f = line_in c.args.kept.now in
    let at = block_line c.args.j in
    let offers : c.from_fn.result ≡ tabulate 24 (λ h. offer_by (f (at + 3 + h))) =
    tabulate_from_fn (λ h. offer_by (f (at + 3 + h))) _ _ c.from_fn.ensures.items (λ i y q l k. search rules) in
    λ i. record {
      own = number_of (f at);
      nominal = record { 0 = number_of (f (at + 1)) };
      monthly = record { 0 = number_of (f (at + 2)) };
      offers = offers i;
    }
