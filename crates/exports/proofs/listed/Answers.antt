-- After k turns the first k postings are stored; the list is only read.
-- Assumes nothing.
use mathlib.Core.Path.{refl, ap, ◌∙◌}
use mathlib.Core.List.{List}
use lib.IntN.{ℤ}
use lib.ListN.{get_or}
use native.Mathlib.Numerals.{add-one}
use Rattle.postings.specs.Journal.{no_posting}
use Rattle.exports.specs.Exports.{posting_stored, listed_to}
use Rattle.exports.proofs.listed.Goals as goal

pub loop-k-init : goal.loop-k-init
unfolding listed_to
loop-k-init c = refl

pub loop-k-preserved : goal.loop-k-preserved
unfolding listed_to
loop-k-preserved c =
    let l = c.loop-k in
    let a = c.args in
    rw add-one (c.put_posting.ensures ∙ ap (λ (x : List ℤ). posting_stored x l.k (get_or a.list.now l.k no_posting)) l.invariant)
