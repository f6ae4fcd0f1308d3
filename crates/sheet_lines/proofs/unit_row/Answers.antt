-- Each place tested is the row's place in the list; the rest are the offers.
-- Assumes nothing.
use mathlib.Core.Path.{ap, sym, ◌∙◌}
use Prim.Native.Nat.{ℕ}
use lib.ListN.{get_or}
use native.Mathlib.Omega.{arith}
use Rattle.sheet_lines.specs.Rows.{unit_rows, end_row}
use Rattle.sheet_lines.proofs.Table.{offer_at_lem}
use Rattle.sheet_lines.proofs.unit_row.Goals as goal

pub returns-in-0 : goal.returns-in-0
unfolding unit_rows
returns-in-0 c = c.number_row.ensures ∙ ap (λ (n : ℕ). get_or unit_rows n end_row) (sym c.in-0.is)

pub returns-in-1 : goal.returns-in-1
unfolding unit_rows
returns-in-1 c = c.number_row-in-1.ensures ∙ ap (λ (n : ℕ). get_or unit_rows n end_row) (sym c.in-1.is)

pub returns-in-2 : goal.returns-in-2
unfolding unit_rows
returns-in-2 c = c.number_row-in-2.ensures ∙ ap (λ (n : ℕ). get_or unit_rows n end_row) (sym c.in-2.is)

pub returns-in_default : goal.returns-in_default
returns-in_default c = c.offer_row.ensures ∙ sym (offer_at_lem c.args.k (omega (arith, c.in_default)) c.requires)
