-- Each return is one way of the verdict; where the change is accepted, what is given goes off one commitment and what comes is added to the other, as the
-- definition has it.
-- Assumes nothing.
use mathlib.Core.Path.{sym, ◌∙◌}
use Rattle.std.proofs.lemmas.Result.{err_from_is_err_and}
use native.Mathlib.Omega.{arith}
use Rattle.commitments.proofs.ChangeStores.{refused_change, accepted_change, change_room}
use Rattle.commitments.proofs.change.Goals as goal

pub plus-requires : goal.plus-requires
plus-requires c =
    change_room c.args.sheet.now c.args.book.now c.args.c _ _ _ _ _ c.entry_index-from.ensures.value c.entry_index-to.ensures.value
    c.hour_index.ensures.value c.is_settled-settled.ensures c.limit_in-last.ensures _ c.above.ensures
    (sym c.change_verdict.ensures ∙ c.in_ok-change_verdict.was) (omega arith) (omega arith)

pub returns-in_err-change_verdict : goal.returns-in_err-change_verdict
returns-in_err-change_verdict c =
    let p = err_from_is_err_and c.from_residual.result c.from_residual.ensures.1 in
    rw (p.1, p.2)
    (refused_change c.args.sheet.now c.args.book.now c.args.c _ _ _ _ _ c.entry_index-from.ensures.value c.entry_index-to.ensures.value
    c.hour_index.ensures.value c.is_settled-settled.ensures c.limit_in-last.ensures _ (sym c.change_verdict.ensures ∙ c.in_err-change_verdict.was))

pub returns : goal.returns
returns c =
    accepted_change c.args.sheet.now c.args.book.now c.args.c _ _ _ _ _ c.entry_index-from.ensures.value c.entry_index-to.ensures.value
    c.hour_index.ensures.value c.is_settled-settled.ensures c.limit_in-last.ensures _ c.above.ensures
    (sym c.change_verdict.ensures ∙ c.in_ok-change_verdict.was) _ c.plus.ensures
