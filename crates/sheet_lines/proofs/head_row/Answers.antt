-- Each place tested is the row's place in the list; the rest are the hours' factors.
-- Assumes nothing.
use mathlib.Core.Path.{ap, sym, ◌∙◌}
use Prim.Native.Nat.{ℕ}
use lib.ListN.{get_or}
use native.Mathlib.Omega.{arith}
use Rattle.text.specs.Rows.{word, number_row}
use Rattle.sheet_lines.specs.Rows.{head_rows, end_row}
use Rattle.sheet_lines.proofs.Table.{cpf_row}
use Rattle.sheet_lines.proofs.head_row.Goals as goal

pub returns-in-0 : goal.returns-in-0
unfolding head_rows
returns-in-0 c = c.number_row.ensures ∙ ap (λ (n : ℕ). get_or (head_rows c.args.month) n end_row) (sym c.in-0.is)

pub returns-in-1 : goal.returns-in-1
unfolding head_rows
returns-in-1 c = (c.number_row-in-1.ensures ∙ ap (λ (n : ℕ). number_row (word "day") 1 n) c.last_day.ensures) ∙ ap (λ (n : ℕ). get_or (head_rows c.args.month) n end_row) (sym c.in-1.is)

pub returns-in-2 : goal.returns-in-2
unfolding head_rows
returns-in-2 c = c.number_row-in-2.ensures ∙ ap (λ (n : ℕ). get_or (head_rows c.args.month) n end_row) (sym c.in-2.is)

pub returns-in-3 : goal.returns-in-3
unfolding head_rows
returns-in-3 c = c.number_row-in-3.ensures ∙ ap (λ (n : ℕ). get_or (head_rows c.args.month) n end_row) (sym c.in-3.is)

pub returns-in-4 : goal.returns-in-4
unfolding head_rows
returns-in-4 c = c.number_row-in-4.ensures ∙ ap (λ (n : ℕ). get_or (head_rows c.args.month) n end_row) (sym c.in-4.is)

pub returns-in-29 : goal.returns-in-29
unfolding head_rows
returns-in-29 c = c.number_row-in-29.ensures ∙ ap (λ (n : ℕ). get_or (head_rows c.args.month) n end_row) (sym c.in-29.is)

pub returns-in_default : goal.returns-in_default
returns-in_default c = c.number_row-in_default.ensures ∙ sym (cpf_row c.args.month c.args.k (omega (arith, c.in_default)) (omega (arith, c.in_default, c.requires)))
