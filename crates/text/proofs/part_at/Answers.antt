-- Each return is a test of the definition: the digits, their number, a leading zero, the least value.
-- Assumes nothing.
use Rattle.text.proofs.Walk.{seek_le}
use Rattle.text.proofs.Numerals.{part_some, part_none, part_is, not_digits, too_small, no_digit, zero_first, plain, part_length, part_first}
use Rattle.text.specs.Text.{seek, digits}
use Rattle.text.specs.Rows.{part_bytes}
use Rattle.std.specs.Prelude.{Some}
use lib.ListN.{length, drop, get_or, length-drop}
use native.Mathlib.Omega.{arith}
use Prim.Native.Nat.{◌≤◌, ◌+◌}
use mathlib.Core.Path.{◌≡◌, refl, sym, ◌∙◌}
use Rattle.text.proofs.part_at.Goals.{In_ok-part}
use Rattle.text.proofs.part_at.Goals.{else-from-part-via-then-from-part+else-value-from-eq48, else-from-part-via-else-from-part}
use Rattle.text.proofs.part_at.Goals as goal

-- the digits make a number, and end where the part does
read : (c : In_ok-part) →
    let g = c.args in
    (digits g.high 0 (part_bytes g.value.now g.from) ≡ Some c.in_ok-part.part.number) × (c.in_ok-part.part.end ≡ g.from + seek 58 44 (drop g.from g.value.now))
read c = part_some c.in_ok-part.part _ _ (sym c.in_ok-part.was ∙ c.digits_at.ensures)

pub returns-in_err-part : goal.returns-in_err-part
returns-in_err-part c =
    let g = c.args in
    rw (c.from_residual.ensures, not_digits g.low g.high (part_bytes g.value.now g.from) (part_none _ _ (sym c.in_err-part.was ∙ c.digits_at.ensures))) refl

pub returns-then-part-from : goal.returns-then-part-from
returns-then-part-from c =
    let g = c.args in
    let r = read (goal.at.returns-then-part-from c).In_ok-part in
    rw (no_digit g.low g.high (part_bytes g.value.now g.from) (omega (arith, part_length g.value.now g.from _ r.1, c.if-part-from.true))) refl

pub bounds-value-from : goal.bounds-value-from
bounds-value-from c =
    let g = c.args in
    let r = read (goal.at.bounds-value-from c).In_ok-part in
    omega (arith, r.1, seek_le 58 44 (drop g.from g.value.now), length-drop g.from g.value.now, c.if-from-part.true)

pub returns-then-value-from-eq48 : goal.returns-then-value-from-eq48
returns-then-value-from-eq48 c =
    let g = c.args in
    let v = g.value.now in
    let r = read (goal.at.returns-then-value-from-eq48 c).In_ok-part in
    rw (zero_first g.low g.high (part_bytes v g.from) (omega (arith, part_length v g.from _ r.1, c.if-from-part.true))
    (part_first v g.from _ r.1 (omega (arith, c.if-from-part.true)) ∙ c.if-value-from-eq48.true)) refl

pub returns-then-part-low : goal.returns-then-part-low
returns-then-part-low c =
    let g = c.args in
    let r = read (goal.at.returns-then-part-low c).In_ok-part in
    rw (too_small g.low g.high (part_bytes g.value.now g.from) _ r.0 c.if-part-low.true) refl

pub returns : goal.returns
returns c =
    let g = c.args in
    let v = g.value.now in
    let b = part_bytes v g.from in
    let p = c.in_ok-part.part in
    let r = read (goal.at.returns c).In_ok-part in
    let first : 2 ≤ length b → get_or b 0 0 ≡ 48 → ⊥ =
    λ h z. elim c.else-from-part.branch [
      | else-from-part-via-then-from-part+else-value-from-eq48 w ↦ w.if-value-from-eq48.false (sym (part_first v g.from _ r.1 (omega (arith, part_length v g.from _ r.1))) ∙ z)
      | else-from-part-via-else-from-part w ↦ omega (arith, part_length v g.from _ r.1)
    ] in
    part_is p _ _ (plain g.low g.high b p.number r.0 (omega (arith, c.if-part-low.false)) (omega (arith, part_length v g.from _ r.1, c.if-part-from.false)) first) r.1
