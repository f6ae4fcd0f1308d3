-- Each turn reads one part up to its mark: what is left of the value, and the numbers so far, are those of the definition.
-- Assumes nothing.
use Rattle.values.proofs.Values.{bad, whole, part, other, more, at_mark, past_mark, ended, goes_on, part_next_le}
use Rattle.text.proofs.Numerals.{part_some, part_none}
use Rattle.text.specs.declared.Line.{Line}
use Rattle.std.specs.Prelude.{Some, None, Result, Ok}
use Rattle.text.specs.declared.TextFault.{TextFault}
use Rattle.text.specs.declared.TextFault.TheVariants.{BadValue}
use Rattle.std.proofs.lemmas.Result.{err_from_is_err_and}
use Rattle.text.specs.Rows.{no_line, part_bytes}
use Rattle.values.specs.Values.{numbers}
use Rattle.text.specs.Text.{seek, number_in, part_with}
use lib.ListN.{drop, get_or}
use native.Mathlib.Omega.{arith}
use Prim.Native.Nat.{ℕ, suc, ◌-◌, ◌+◌}
use mathlib.Core.Path.{◌≡◌, ap, sym, ◌∙◌}
use Rattle.values.proofs.numbers.Goals.{In_ok-part, In-loop-k, After-part_at}
use Rattle.values.proofs.numbers.Goals as goal

-- the loop's rest is the whole, in a turn
so_far : (c : In-loop-k) →
    let g = c.args in
    let l = c.loop-k in
    numbers g.row.now.low g.row.now.high g.row.now.parts (suc (g.row.now.most - l.k - 1)) l.p (drop l.from g.value.now) l.line
    ≡ numbers g.row.now.low g.row.now.high g.row.now.parts g.row.now.most 0 g.value.now no_line
so_far c =
    let r = c.args.row.now in
    let l = c.loop-k in
    let e : suc (r.most - l.k - 1) ≡ r.most - l.k = omega (arith, c.loop-k-test.true) in
    ap (λ (k : ℕ). numbers r.low r.high r.parts k l.p (drop l.from c.args.value.now) l.line) e ∙ l.invariant.3

-- the part that stands next
here : (c : After-part_at) →
    let r = c.args.row.now in
    let l = c.loop-k in
    let v = c.args.value.now in
    c.part_at.result ≡ part_with (l.from + seek 58 44 (drop l.from v)) (number_in (get_or r.low l.p 0) (get_or r.high l.p 0) (part_bytes v l.from))
here c =
    let v = c.args.value.now in
    let l = c.loop-k in
    c.part_at.ensures ∙ (λ i. part_with (l.from + seek 58 44 (drop l.from v)) (number_in (c.element.ensures i) (c.element-in-loop-k.ensures i) (part_bytes v l.from)))

-- its number and its end
read : (c : In_ok-part) →
    let r = c.args.row.now in
    let l = c.loop-k in
    let v = c.args.value.now in
    (number_in (get_or r.low l.p 0) (get_or r.high l.p 0) (part_bytes v l.from) ≡ Some c.in_ok-part.part.number)
    × (c.in_ok-part.part.end ≡ l.from + seek 58 44 (drop l.from v))
read c =
    let v = c.args.value.now in
    let l = c.loop-k in
    let found : c.part_at.result ≡ Some c.in_ok-part.part = grind (arith, c.ok_or.ensures.value, c.in_ok-part.was) in
    part_some c.in_ok-part.part _ _ (sym found ∙ (c.part_at.ensures
    ∙ (λ i. part_with (l.from + seek 58 44 (drop l.from v)) (number_in (c.element.ensures i) (c.element-in-loop-k.ensures i) (part_bytes v l.from)))))

pub returns-in_err-part : goal.returns-in_err-part
returns-in_err-part c =
    let g = c.args in
    let l = c.loop-k in
    let p = err_from_is_err_and c.from_residual.result c.from_residual.ensures.1 in
    let none : c.part_at.result ≡ None = grind (arith, c.ok_or.ensures.value, c.in_err-part.was) in
    let fault : c.in_err-part.field-0.0 ≡ BadValue = grind (arith, c.ok_or.ensures.value, c.in_err-part.was, none) in
    let refused = bad g.row.now.low g.row.now.high g.row.now.parts (g.row.now.most - l.k - 1) l.p (drop l.from g.value.now) l.line
    (part_none _ _ (sym none ∙ here (goal.at.returns-in_err-part c).After-part_at)) in
    rw (p.1, p.2, fault) (sym refused ∙ so_far (goal.at.returns-in_err-part c).In-loop-k)

pub returns-then-whole : goal.returns-then-whole
returns-then-whole c =
    let g = c.args in
    let l = c.loop-k in
    let r = read (goal.at.returns-then-whole c).In_ok-part in
    ap {B = Result Line TextFault} (λ (x : Line). Ok x) c.add.ensures
    ∙ (sym (whole g.row.now.low g.row.now.high g.row.now.parts (g.row.now.most - l.k - 1) l.p (drop l.from g.value.now) l.line _ r.0
    (ended g.value.now l.from _ r.1 c.if-value-part.true) c.if-whole.true)
    ∙ so_far (goal.at.returns-then-whole c).In-loop-k)

pub returns-else-whole : goal.returns-else-whole
returns-else-whole c =
    let g = c.args in
    let l = c.loop-k in
    let r = read (goal.at.returns-else-whole c).In_ok-part in
    sym (part g.row.now.low g.row.now.high g.row.now.parts (g.row.now.most - l.k - 1) l.p (drop l.from g.value.now) l.line _ r.0
    (ended g.value.now l.from _ r.1 c.if-value-part.true) c.if-whole.false)
    ∙ so_far (goal.at.returns-else-whole c).In-loop-k

pub returns-then-value-part-2 : goal.returns-then-value-part-2
returns-then-value-part-2 c =
    let g = c.args in
    let l = c.loop-k in
    let r = read (goal.at.returns-then-value-part-2 c).In_ok-part in
    let m = at_mark g.value.now l.from _ r.1 in
    sym (other g.row.now.low g.row.now.high g.row.now.parts (g.row.now.most - l.k - 1) l.p (drop l.from g.value.now) l.line _ r.0
    (goes_on g.value.now l.from _ r.1 c.if-value-part.false) (λ h. c.if-value-part-2.true (sym m ∙ h ∙ sym c.mark_due.ensures)))
    ∙ so_far (goal.at.returns-then-value-part-2 c).In-loop-k

pub loop-k-preserved : goal.loop-k-preserved
loop-k-preserved c =
    let r = c.args.row.now in
    let v = c.args.value.now in
    let l = c.loop-k in
    let q = read (goal.at.loop-k-preserved c).In_ok-part in
    let m = at_mark v l.from _ q.1 in
    let turn = more r.low r.high r.parts (r.most - l.k - 1) l.p (drop l.from v) l.line _ q.0
    (goes_on v l.from _ q.1 c.if-value-part.false) (m ∙ c.if-value-part-2.false ∙ c.mark_due.ensures) in
    let left : r.most - (l.k + 1) ≡ r.most - l.k - 1 = omega arith in (
      omega arith,
      omega (arith, l.invariant.1, ap (λ (x : Line). x.count) c.add.ensures),
      omega (arith, l.invariant.2, c.part_next-p.ensures, part_next_le r.parts l.p),
      (λ i. numbers r.low r.high r.parts (left i) (c.part_next-p.ensures i) (sym (past_mark v l.from _ q.1) i) (c.add.ensures i))
          ∙ (sym turn ∙ so_far (goal.at.loop-k-preserved c).In-loop-k),
    )

pub returns : goal.returns
unfolding numbers
returns c =
    let r = c.args.row.now in
    let l = c.loop-k in
    let e : r.most - l.k ≡ 0 = omega (arith, c.loop-k-test.false) in
    sym (ap (λ (k : ℕ). numbers r.low r.high r.parts k l.p (drop l.from c.args.value.now) l.line) e) ∙ l.invariant.3
