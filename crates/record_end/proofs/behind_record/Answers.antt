-- The place behind the line is looked for from the line at `at` on, as from the first.
-- Assumes nothing.
use Rattle.record_end.proofs.Behind.{past_all, at_end, goes_on, none_left}
use native.Mathlib.Omega.{arith}
use Rattle.record_end.proofs.Behind.{past_all, at_end, goes_on}
use mathlib.Core.Path.{sym, ◌∙◌}
use Rattle.record_end.proofs.behind_record.Goals as goal

pub returns-then-text-e : goal.returns-then-text-e
returns-then-text-e c =
    let t = c.args.text.now in
    let l = c.loop-at in
    omega (arith, past_all t l.at c.find-e.result c.find-e.ensures (omega arith) c.if-text-e.true, l.invariant)

pub returns-then-is_end : goal.returns-then-is_end
returns-then-is_end c =
    let t = c.args.text.now in
    let l = c.loop-at in
    omega (arith, at_end t l.at c.find-e.result c.find-e.ensures (omega (arith, c.if-text-e.false)) (sym c.is_end.ensures ∙ c.if-is_end.true), l.invariant)

pub loop-at-preserved : goal.loop-at-preserved
loop-at-preserved c =
    let t = c.args.text.now in
    let l = c.loop-at in
    omega (arith, goes_on t l.at c.find-e.result c.find-e.ensures (omega (arith, c.if-text-e.false)) (sym c.is_end.ensures ∙ c.if-is_end.false), l.invariant)

pub returns : goal.returns
returns c = omega (arith, none_left c.args.text.now c.loop-at.at (omega arith), c.loop-at.invariant)
