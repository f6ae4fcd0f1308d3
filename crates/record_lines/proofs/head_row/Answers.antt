-- Each place tested is the row's place in the list; the last is the one left.
-- Assumes nothing.
use Prim.Native.Nat.{ℕ}
use mathlib.Core.Path.{◌≡◌, ap, sym, ◌∙◌}
use native.Mathlib.Omega.{arith}
use lib.ListN.{get_or}
use Rattle.record_lines.specs.Rows.{head_rows, end_row}
use Rattle.record_lines.proofs.head_row.Goals as goal

pub returns-in-0 : goal.returns-in-0
unfolding head_rows
returns-in-0 c = c.number_row.ensures ∙ ap (λ (n : ℕ). get_or head_rows n end_row) (sym c.in-0.is)

pub returns-in-1 : goal.returns-in-1
unfolding head_rows
returns-in-1 c = c.blank_row.ensures ∙ ap (λ (n : ℕ). get_or head_rows n end_row) (sym c.in-1.is)

pub returns-in_default : goal.returns-in_default
unfolding head_rows
returns-in_default c = let e : 2 ≡ c.args.k = omega (arith, c.in_default, c.requires) in c.blank_row-in_default.ensures ∙ ap (λ (n : ℕ). get_or head_rows n end_row) e
