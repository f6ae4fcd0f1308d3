-- What refuses every call refuses this one; where nothing does, the engine is ready for it (proofs/Passing.antt).
-- Assumes nothing.
use Rattle.std.proofs.Common.{refl, ◌∙◌}
use Rattle.journal.proofs.Passing.{carried_performed, refused_performed}
use Rattle.journal.proofs.Accounts.answer.Goals as goal

pub returns-in-Err : goal.returns-in-Err
returns-in-Err c =
    let a = c.args.self.now in
    record {
      done = rw c.start_of.ensures (refused_performed a.sheet.now a.book a.count a.list.now c.in-Err.refusal c.args.text.now c.args.call (c.requires.known ∙ c.in-Err.is));
      counted = refl;
      same = record { sheet = refl; list = refl };
    }

pub returns : goal.returns
returns c =
    let a = c.args.self.now in
    record {
      done = c.carry_out-done.ensures ∙ carried_performed a.sheet.now a.book a.count a.list.now (c.requires.known ∙ c.in_default.is) _;
      counted = refl;
      same = record { sheet = refl; list = refl };
    }
