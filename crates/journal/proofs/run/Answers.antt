-- The promise about every list of calls holds of what `run_on` leaves: proofs/Listed.antt.
-- Assumes nothing.
use Rattle.std.proofs.Common.{rules, length}
use Rattle.journal.specs.Run.{turns_of}
use Rattle.journal.proofs.Listed.{run_demand, turns_room}
use Rattle.journal.proofs.run.Goals as goal

pub returns-clause-promised : goal.returns-clause-promised
returns-clause-promised c =
    let a = c.args in
    run_demand a.sheet.now a.calls.now a.text.now a.list.now a.answers.now (turns_of (length a.calls.now) (length a.answers.now))
    (turns_room (length a.calls.now) (length a.answers.now))
    (record { list = _; answers = c.run_on.new.answers; book = c.run_on.new.self.book; count = c.run_on.new.self.count }) (search rules)
