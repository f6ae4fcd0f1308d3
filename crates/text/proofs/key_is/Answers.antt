-- Byte by byte, up to the first place where line and key differ or both have `=`.
-- Assumes nothing.
use native.Mathlib.Omega.{arith}
use mathlib.Core.Path.{sym, ◌∙◌}
use Rattle.text.proofs.Walk.{key_none, key_short, key_other, key_end, key_on}
use Rattle.text.proofs.key_is.Goals.{then-line-i-via-then-line-i, then-line-i-via-else-line-i+then-line-i-2}
use Rattle.text.proofs.key_is.Goals as goal

pub returns-then-line-i : goal.returns-then-line-i
returns-then-line-i c =
    let s = c.args.line.now in
    let w = c.args.key in
    let i = c.loop-i.i in
    elim c.then-line-i.branch [
      | then-line-i-via-then-line-i x ↦ sym (key_short s w i x.if-line-i.true) ∙ c.loop-i.invariant
      | then-line-i-via-else-line-i+then-line-i-2 x ↦ sym (key_other s w i (omega (arith, c.well_formed)) (omega arith) x.if-line-i-2.true) ∙ c.loop-i.invariant
    ]

pub returns-then-key-i-eq61 : goal.returns-then-key-i-eq61
returns-then-key-i-eq61 c =
    sym (key_end c.args.line.now c.args.key c.loop-i.i (omega (arith, c.well_formed)) (omega arith) c.if-line-i-2.false c.if-key-i-eq61.true) ∙ c.loop-i.invariant

pub loop-i-preserved : goal.loop-i-preserved
loop-i-preserved c =
    sym (key_on c.args.line.now c.args.key c.loop-i.i (omega (arith, c.well_formed)) (omega arith) c.if-line-i-2.false c.if-key-i-eq61.false) ∙ c.loop-i.invariant

pub returns : goal.returns
returns c = sym (key_none c.args.line.now c.args.key c.loop-i.i (omega (arith, c.well_formed))) ∙ c.loop-i.invariant
