-- One line more at a time.
-- Assumes nothing.
use Rattle.std.proofs.Common.{refl, sym}
use Rattle.listing.proofs.Joined.{none_joined, joined_more}
use Rattle.daybook.specs.Replay.{course, stepped, step_line, steps, nth_line}
use Rattle.daybook.proofs.Steps.{same_bytes, goes_on, same_line, next_steps}
use Rattle.daybook.proofs.Replay.run.Goals as goal

pub loop-i-init : goal.loop-i-init
unfolding steps
loop-i-init c =
    record {
      left = record { course_is = refl; same = record { sheet = refl; list = refl }; text_is = refl };
      printed = record { same_buffer = refl; bytes_after = sym (none_joined _ _) };
    }

pub loop-i-preserved : goal.loop-i-preserved
loop-i-preserved c =
    let r = c.args.self.now in
    let w = c.loop-i.invariant in
    let t = c.turn in
    let line = same_bytes c.loop-i.out t.new.out t.ensures.printed (same_line r c.loop-i.self step_line _ w.left) in
    record {
      left = next_steps r c.loop-i.i _ (goes_on r c.loop-i.self _ stepped _ w.left t.ensures.left);
      printed = joined_more c.loop-i.i (nth_line r.accounts.sheet.now r.text.now (course r)) c.args.out.now c.loop-i.out t.new.out w.printed line;
    }
