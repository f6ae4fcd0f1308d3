-- Each turn is one call on what the call before it left (proofs/Turning.antt).
-- Assumes nothing.
use Rattle.std.proofs.Common.{refl, sym, ap, ◌∙◌}
use Rattle.ledger.specs.Requests.{call_at}
use Rattle.decisions.specs.Calls.{call_of}
use Rattle.decisions.proofs.Calls.{decoded_is}
use Rattle.journal.specs.Accounts.{Performs}
use Rattle.journal.specs.Run.{ran_all}
use Rattle.journal.proofs.Turning.{known_next, ran_next, same_next}
use Rattle.journal.proofs.Accounts.run_on.Goals as goal

pub loop-i-init : goal.loop-i-init
unfolding ran_all
loop-i-init c =
    record {
      ran = refl;
      same = record { sheet = refl; list = refl };
      known = record { sized = c.is_sized.ensures; known = sym c.passes-passes.ensures };
    }

pub loop-i-preserved : goal.loop-i-preserved
unfolding call_at
loop-i-preserved c =
    let a = c.args in
    let l = c.loop-i in
    let own = ap (call_of a.text.now) (c.from.ensures ∙ rw c.asked_at-asked.ensures) ∙ decoded_is a.text.now _ in
    let p : Performs l.self (call_at a.calls.now a.text.now l.i) c.answer-done.new.self c.answer-done.result = rw own at c.answer-done.ensures in
    record {
      ran = ran_next a.calls.now a.text.now a.self.now a.answers.now _ _ _ _ _ _ l.i l.invariant.ran l.invariant.same l.invariant.known p c.store_answer.ensures;
      same = same_next a.self.now l.self _ l.invariant.same p.same;
      known = known_next l.self _ _ _ _ l.invariant.known p;
    }
