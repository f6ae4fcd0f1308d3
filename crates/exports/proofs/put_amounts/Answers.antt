-- The loop's invariant: the amounts of the hours and units passed are stored.
-- Assumes nothing.
use Rattle.std.proofs.Common.{◌≡◌, sym, ◌∙◌, ◌+◌, suc, arith}
use lib.IntN.{pos}
use Rattle.exports.proofs.Put.{amounts_none, amounts_next}
use Rattle.exports.proofs.put_amounts.Goals as goal

pub loop-k-init : goal.loop-k-init
loop-k-init c = sym (amounts_none _ _)

pub loop-k-preserved : goal.loop-k-preserved
loop-k-preserved c =
    let l = c.loop-k in
    let n : l.k + 1 ≡ suc l.k = omega arith in
    c.store_all.ensures (pos 0) ∙ amounts_next _ _ l.out l.k (l.k + 1) l.invariant n
