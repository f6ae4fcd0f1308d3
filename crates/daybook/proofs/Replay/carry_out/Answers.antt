-- A call leaves what it leaves of the course, and a total leaves it as it is.
-- Assumes nothing.
use Rattle.std.proofs.Common.{refl, ap}
use Rattle.ledger.specs.Answers.{Answer}
use Rattle.entries.specs.Entries.{answer_text, entry_line}
use Rattle.daybook.proofs.Steps.{same_bytes, call_left, call_answer}
use Rattle.daybook.proofs.Replay.carry_out.Goals as goal

pub returns-in-Call-clause-left : goal.returns-in-Call-clause-left
returns-in-Call-clause-left c =
    let a = c.args.self.now.accounts in
    rw c.in-Call.is
    (record { course_is = call_left a _ _ _ c.call-done.ensures _; same = c.call-done.ensures.same; text_is = refl })

pub returns-in-Call-clause-printed : goal.returns-in-Call-clause-printed
returns-in-Call-clause-printed c =
    let a = c.args.self.now in
    rw c.in-Call.is
    (same_bytes c.args.out.now c.put_entry.new.out c.put_entry.ensures
    (ap (λ (x : Answer). entry_line a.text.now a.at (answer_text x)) (call_answer a.accounts _ _ _ c.call-done.ensures)))
