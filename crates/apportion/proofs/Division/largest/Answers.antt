-- The loop's invariant: `part` is the definition's for the parts passed, and `most` is what is left of its remainder.
-- Assumes nothing.
use Rattle.apportion.proofs.Ones.{largest_one, replaced, kept}
use Rattle.apportion.specs.Shares.{remainder_left, quotient, remainder}
use native.Mathlib.Omega.{arith}
use mathlib.Core.Path.{ap, sym, ◌∙◌}
use Rattle.apportion.proofs.Division.largest.Goals.{then-most-x, else-most-x}
use Rattle.apportion.proofs.Division.largest.Goals as goal

pub loop-i-init : goal.loop-i-init
loop-i-init c = (sym (largest_one _ _ _), c.remainder_left-most.ensures)

pub loop-i-preserved : goal.loop-i-preserved
loop-i-preserved c =
    let g = c.args in
    let d = g.self.now in
    let q = quotient d.all d.total d.weights.now in
    let r = remainder d.all d.total d.weights.now in
    let l = c.loop-i in
    let x = c.remainder_left-x.ensures in
    elim c.if-most-x.branch [
      | then-most-x w ↦ (
        w.part-is ∙ replaced q r g.shares.now l.i l.part l.invariant.0 (omega (arith, l.invariant.1, x, w.if-most-x.true)),
        w.most-is ∙ (x ∙ ap (remainder_left q r g.shares.now) (sym w.part-is)),
      )
      | else-most-x w ↦ (
        w.part-is ∙ kept q r g.shares.now l.i l.part l.invariant.0 (omega (arith, l.invariant.1, x, w.if-most-x.false)),
        w.most-is ∙ (l.invariant.1 ∙ ap (remainder_left q r g.shares.now) (sym w.part-is)),
      )
    ]
