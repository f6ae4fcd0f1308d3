-- Each place tested is the row's place in the list; the last is the one left.
-- Assumes nothing.
use Prim.Native.Nat.{ℕ}
use mathlib.Core.Path.{◌≡◌, ap, sym, ◌∙◌}
use native.Mathlib.Omega.{arith}
use lib.ListN.{get_or}
use Rattle.record_lines.specs.Rows.{unit_rows, end_row}
use Rattle.record_lines.proofs.unit_row.Goals as goal

pub returns-in-0 : goal.returns-in-0
unfolding unit_rows
returns-in-0 c = c.blank_row.ensures ∙ ap (λ (n : ℕ). get_or unit_rows n end_row) (sym c.in-0.is)

pub returns-in-1 : goal.returns-in-1
unfolding unit_rows
returns-in-1 c = c.blank_row-in-1.ensures ∙ ap (λ (n : ℕ). get_or unit_rows n end_row) (sym c.in-1.is)

pub returns-in-2 : goal.returns-in-2
unfolding unit_rows
returns-in-2 c = c.blank_row-in-2.ensures ∙ ap (λ (n : ℕ). get_or unit_rows n end_row) (sym c.in-2.is)

pub returns-in-3 : goal.returns-in-3
unfolding unit_rows
returns-in-3 c = c.blank_row-in-3.ensures ∙ ap (λ (n : ℕ). get_or unit_rows n end_row) (sym c.in-3.is)

pub returns-in-4 : goal.returns-in-4
unfolding unit_rows
returns-in-4 c = c.blank_row-in-4.ensures ∙ ap (λ (n : ℕ). get_or unit_rows n end_row) (sym c.in-4.is)

pub returns-in-5 : goal.returns-in-5
unfolding unit_rows
returns-in-5 c = c.blank_row-in-5.ensures ∙ ap (λ (n : ℕ). get_or unit_rows n end_row) (sym c.in-5.is)

pub returns-in-6 : goal.returns-in-6
unfolding unit_rows
returns-in-6 c = c.blank_row-in-6.ensures ∙ ap (λ (n : ℕ). get_or unit_rows n end_row) (sym c.in-6.is)

pub returns-in-7 : goal.returns-in-7
unfolding unit_rows
returns-in-7 c = c.blank_row-in-7.ensures ∙ ap (λ (n : ℕ). get_or unit_rows n end_row) (sym c.in-7.is)

pub returns-in_default : goal.returns-in_default
unfolding unit_rows
returns-in_default c = let e : 8 ≡ c.args.k = omega (arith, c.in_default, c.requires) in c.spans_row.ensures ∙ ap (λ (n : ℕ). get_or unit_rows n end_row) e
