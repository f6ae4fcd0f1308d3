-- Each turn reads one digit: the number so far is ten times the one before and the digit, and stays within the bound. Any other byte
-- ends the part, as its mark, or spoils it.
-- Assumes nothing.
use mathlib.Core.Path.{refl, ap, sym, ◌∙◌}
use mathlib.Core.Logic.{⊎_elim}
use Prim.Native.Nat.{ℕ, ◌+◌, ◌<◌}
use native.Mathlib.Omega.{arith}
use lib.ListN.{get_or}
use Rattle.text.specs.Text.{digits}
use Rattle.text.specs.Rows.{part_bytes}
use Rattle.text.proofs.Walk.{ended, spoilt, seek_mark, seek_end, seek_on, bytes_on, low, up, large, digit, within_none, within_some}
use Rattle.text.proofs.digits_at.Goals as goal

pub returns-then-x-eq58 : goal.returns-then-x-eq58
returns-then-x-eq58 c =
    let l = c.loop-i in
    let v = c.args.value.now in
    ended v c.args.from c.args.high l.n l.i l.invariant.1 l.invariant.2 l.i refl (seek_mark v l.i (omega arith) c.if-x-eq58.either)

pub returns-else-x-eq58 : goal.returns-else-x-eq58
returns-else-x-eq58 c =
    let l = c.loop-i in
    let v = c.args.value.now in
    let x = get_or v l.i 0 in
    let rest = part_bytes v (l.i + 1) in
    spoilt v c.args.from c.args.high l.n l.i l.invariant.1 l.invariant.2
    (ap (digits c.args.high l.n) (bytes_on v l.i (omega arith) c.if-x-eq58.false.1 c.if-x-eq58.false.0)
    ∙ ⊎_elim (λ (e : x < 48). low c.args.high l.n x rest e) (λ (e, f). up c.args.high l.n x rest e f) c.then-x-lt48.either)

pub returns-in_err-n : goal.returns-in_err-n
returns-in_err-n c =
    let l = c.loop-i in
    let v = c.args.value.now in
    let x = get_or v l.i 0 in
    rw c.from_residual.ensures (spoilt v c.args.from c.args.high l.n l.i l.invariant.1 l.invariant.2
    (ap (digits c.args.high l.n) (bytes_on v l.i (omega arith) (λ q. omega arith) (λ q. omega arith))
    ∙ large c.args.high l.n x (part_bytes v (l.i + 1)) (omega arith) (omega arith) (within_none _ _ (sym c.with_digit.ensures ∙ c.in_err-n.was))))

pub loop-i-preserved : goal.loop-i-preserved
loop-i-preserved c =
    let l = c.loop-i in
    let v = c.args.value.now in
    let x = get_or v l.i 0 in
    let g = c.args in
    let s = seek_on v l.i (omega arith) 58 44 (λ q. omega arith) (λ q. omega arith) in
    let w = within_some _ _ _ (sym c.with_digit.ensures ∙ c.in_ok-n.was) in (
      omega (arith, l.auto.i-end),
      omega (arith, s, l.invariant.1),
      ap (λ (k : ℕ). digits g.high k (part_bytes v (l.i + 1))) (sym w.0)
          ∙ (sym (digit g.high l.n x (part_bytes v (l.i + 1)) (omega arith) (omega arith) w.1)
          ∙ (sym (ap (digits g.high l.n) (bytes_on v l.i (omega arith) (λ q. omega arith) (λ q. omega arith))) ∙ l.invariant.2)),
    )

pub returns : goal.returns
returns c =
    let l = c.loop-i in
    let v = c.args.value.now in
    ended v c.args.from c.args.high l.n l.i l.invariant.1 l.invariant.2 _ (omega (arith, c.max.ensures, l.invariant.0)) (seek_end 58 44 v l.i (omega arith))
