-- 9 and 12 by the test, then 11 (proofs/Scanned.antt).
-- Assumes nothing.
use Rattle.std.proofs.Common.{rules, sym, ◌∙◌}
use Rattle.std.proofs.lemmas.Result.{err_from_is_err_and}
use Rattle.journal.specs.Accounts.{state_in}
use Rattle.journal.proofs.Scanned.{total_refused, total_known}
use Rattle.journal.proofs.Accounts.total.Goals as goal

pub returns-in_err-sum : goal.returns-in_err-sum
returns-in_err-sum c =
    let a = c.args.self.now in
    let p = err_from_is_err_and c.from_residual.result c.from_residual.ensures.1 in
    rw (p.1, p.2) (total_refused a.sheet.now (state_in a) c.args.unit c.args.item _ (sym c.tested.ensures ∙ c.in_err-sum.was))

pub returns-then-not-knows : goal.returns-then-not-knows
returns-then-not-knows c =
    let a = c.args.self.now in
    rw (sym c.knows.ensures ∙ c.if-not-knows.true) at (total_known a.sheet.now (state_in a) c.args.unit c.args.item _ (sym c.tested.ensures ∙ c.in_ok-sum.was))

pub returns : goal.returns
returns c =
    let a = c.args.self.now in
    let e = rw (sym c.knows.ensures ∙ c.if-not-knows.false) at (total_known a.sheet.now (state_in a) c.args.unit c.args.item c.in_ok-sum.sum (sym c.tested.ensures ∙ c.in_ok-sum.was)) in
    search rules
