use Rattle.decimal.specs.Writer.{Wrote}
use Rattle.listing.specs.Listing.{joined}
use Rattle.daybook.specs.Replay.{course, Goes, steps, nth_line}
use Rattle.daybook.proofs.Replay.run.Given as goal

abbrev pub invariant-loop-i : goal.invariant-loop-i
invariant-loop-i l =
    record {
      left : Goes l.fn.self l.self (steps l.fn.self.accounts.sheet.now l.fn.self.text.now (course l.fn.self) l.i);
      printed : Wrote l.fn.out l.out (joined l.i (nth_line l.fn.self.accounts.sheet.now l.fn.self.text.now (course l.fn.self)));
    }
