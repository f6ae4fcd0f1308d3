-- By how the sheet was read; a sheet that was read passes 9.
-- Assumes nothing.
use Prim.Native.Nat.{ℕ}
use mathlib.Core.Path.{ap, sym, ◌∙◌}
use Rattle.sheet_text.specs.Day.{SheetTold}
use Rattle.sheet.specs.Ranges.{sheet_holds}
use Rattle.sheet_text.proofs.Laws.{read_holds}
use Rattle.decimal.specs.Output.{written}
use Rattle.decimal.specs.Writer.{held}
use Rattle.listing.specs.Listing.{refusal_line}
use Rattle.account.specs.declared.Day.{Day}
use Rattle.account.specs.Statement.{day_lines, lines_by, statement_of}
use Rattle.account.proofs.put_statement.Goals as goal

pub day_of-day-requires : goal.day_of-day-requires
day_of-day-requires c =
    let e = rw c.in-Ok.is at c.read_sheet.ensures in
    ap (λ (x : SheetTold). sheet_holds x.sheet) e ∙ read_holds _ 0 _ (sym (ap (λ (x : SheetTold). x.answer) e))

pub returns-in-Ok-clause-result_after : goal.returns-in-Ok-clause-result_after
unfolding statement_of
returns-in-Ok-clause-result_after c =
    let g = c.args in
    let o = held g.out.now in
    let e = rw c.in-Ok.is at c.read_sheet.ensures in
    let w = c.put_day.ensures.result_after in record {
      same_buffer = w.same_buffer;
      bytes_after = w.bytes_after
          ∙ (ap (λ (d : Day). written o (day_lines c.in-Ok.read.sheet.units d)) c.day_of-day.ensures
          ∙ ap (λ (x : SheetTold). written o (lines_by g.text.now x.sheet x.answer)) e);
    }

pub returns-in-Err-clause-result_after : goal.returns-in-Err-clause-result_after
unfolding statement_of
returns-in-Err-clause-result_after c =
    let g = c.args in
    let o = held g.out.now in
    let e = rw c.in-Err.is at c.read_sheet.ensures in
    let w = c.put_refusal.ensures.result_after in record {
      same_buffer = w.same_buffer;
      bytes_after = w.bytes_after
          ∙ (ap (λ (n : ℕ). written o (refusal_line n)) c.number.ensures
          ∙ ap (λ (x : SheetTold). written o (lines_by g.text.now x.sheet x.answer)) e);
    }
