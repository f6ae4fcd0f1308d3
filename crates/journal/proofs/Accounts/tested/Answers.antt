-- Where neither 9 nor the book's and the count's part of 12 holds, the scan tells the rest (proofs/Scanned.antt).
-- Assumes nothing.
use Rattle.std.proofs.Common.{sym, ◌∙◌}
use Rattle.journal.specs.Accounts.{state_in}
use Rattle.journal.proofs.Scanned.{found}
use Rattle.journal.proofs.Accounts.tested.Goals as goal

pub returns : goal.returns
returns c =
    let a = c.args.self.now in
    c.ok_or.ensures.value
    ∙ found a.sheet.now (state_in a) c.args.unit c.args.item (sym c.sheet_holds.ensures ∙ c.if-not-sheet_holds.false)
    (sym c.book_holds.ensures ∙ c.if-not-book_holds.false) (sym c.count_holds.ensures ∙ c.if-not-count_holds.false) _ (sym c.sum_of.ensures)
