use Rattle.journal.specs.Accounts.{Known, Same}
use Rattle.journal.specs.Run.{running, ran_all}
use mathlib.Core.Path.{◌≡◌}
use Rattle.journal.proofs.Accounts.run_on.Given as goal

-- the accounts and the answers are those after the calls so far, and it is still known whether 9 or 12 refuses the next one
abbrev pub invariant-loop-i : goal.invariant-loop-i
invariant-loop-i l =
    record {
      ran : running l.self l.answers ≡ ran_all l.fn.self.sheet.now l.calls l.text (running l.fn.self l.fn.answers) l.i;
      same : Same l.fn.self l.self;
      known : Known l.self l.passes;
    }
