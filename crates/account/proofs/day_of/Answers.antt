-- Each turn of the loop is one call, carried out on what the calls so far left: the laws are in proofs/Underway.antt.
-- Assumes nothing.
use lib.ListN.{replicate}
use Rattle.postings.specs.declared.Posting.{Posting}
use Rattle.std.proofs.Common.{rules, ◌≡◌, refl, ap, ◌∙◌, arith}
use Rattle.std.specs.Prelude.{Ok, Some}
use Rattle.decisions.specs.Calls.{call_of}
use Rattle.decisions.proofs.Calls.{decoded_is}
use Rattle.account.specs.Day.{Pending}
use Rattle.account.proofs.Underway.{under_first, under_end, under_out, under_next}
use Rattle.account.proofs.day_of.Goals.{else-loop-test, then-loop-test+in_default, then-loop-test+in_default-2}
use Rattle.account.proofs.day_of.Goals as goal

pub loop-init : goal.loop-init
loop-init c =
    let a = c.args in
    under_first a.sheet.now a.text.now a.at c.requires _ _ _ (omega arith) refl c.empty_book.ensures refl (ap (λ (x : Posting). replicate 2000 x) c.no_posting-list.ensures) c.due_at-due.ensures

pub answer-done-requires : goal.answer-done-requires
answer-done-requires c = c.loop.invariant.known

pub loop-preserved : goal.loop-preserved
loop-preserved c =
    let a = c.args in
    let is : ◌≡◌ {A = Pending} c.loop.due (Ok (Some c.in-Ok-Some.next)) = search rules in
    let own = ap (call_of a.text.now) c.from.ensures ∙ decoded_is a.text.now _ in
    under_next a.sheet.now a.text.now a.at _ _ _ c.loop.invariant c.in-Ok-Some.next _ _ (rw own at c.answer-done.ensures) _ c.due_after-due.ensures
    _ (omega (arith, c.loop-test.true)) is

pub returns : goal.returns
returns c =
    let a = c.args in
    elim c.loop-test.branch [
      | else-loop-test w ↦ under_out a.sheet.now a.text.now a.at _ _ _ c.loop.invariant (omega (arith, w.loop-test.false))
      | then-loop-test+in_default w ↦ under_end a.sheet.now a.text.now a.at _ _ _ c.loop.invariant (λ x e. search rules)
      | then-loop-test+in_default-2 w ↦ under_end a.sheet.now a.text.now a.at _ _ _ c.loop.invariant (λ x e. search rules)
    ]
