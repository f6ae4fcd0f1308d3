-- After k turns the first k postings are taken up.
-- Assumes nothing.
use Rattle.std.proofs.Common.{◌∙◌, ap, add-one, get_or}
use Rattle.std.specs.Prelude.{Option}
use lib.IntN.{ℤ}
use Rattle.postings.specs.Journal.{no_posting, scanned_to, scanned_with}
use Rattle.journal.proofs.scan.Goals as goal

pub loop-x-init : goal.loop-x-init
unfolding scanned_to
loop-x-init c = c.scanned_none-sum.ensures

pub loop-x-preserved : goal.loop-x-preserved
unfolding scanned_to
loop-x-preserved c =
    let a = c.args in
    let l = c.loop-x in
    rw add-one
    (c.scanned_with-sum.ensures
    ∙ ap (λ (s : Option ℤ). scanned_with s (get_or a.list.now l.x-index no_posting) a.unit a.item) l.invariant)
