-- Each turn compares a pair with the one before it.
-- Assumes nothing.
use Rattle.values.proofs.Values.{not_above, falls, rises}
use Rattle.values.specs.Values.{rising}
use native.Mathlib.Omega.{arith}
use Prim.Native.Nat.{ℕ, suc, ◌+◌, ◌-◌, ◌*◌, ◌/◌, ◌≤◌}
use mathlib.Core.Logic.{⊎_elim}
use mathlib.Core.Bool.{false}
use mathlib.Core.Path.{◌≡◌, ap, sym, ◌∙◌}
use Rattle.values.proofs.rising.Goals as goal

pub returns-then-x-q : goal.returns-then-x-q
returns-then-x-q c =
    let n = c.args.line.now.number in
    let l = c.loop-s in
    let k : c.args.line.now.count / 2 - l.s ≡ suc (c.args.line.now.count / 2 - l.s - 1) = omega arith in
    let f : rising n (2 * l.s) (suc (c.args.line.now.count / 2 - l.s - 1)) l.q l.p ≡ false =
    ⊎_elim (λ (a : c.element-x.result ≤ l.q). not_above n (2 * l.s) (c.args.line.now.count / 2 - l.s - 1) l.q l.p (omega (arith, c.element-x.ensures)))
    (λ (a, b). falls n (2 * l.s) (c.args.line.now.count / 2 - l.s - 1) l.q l.p (omega (arith, c.element-x.ensures)) (omega (arith, c.element-y.ensures))) c.then-x-q.either in
    sym (ap (λ (m : ℕ). rising n (2 * l.s) m l.q l.p) k ∙ f) ∙ l.invariant

pub loop-s-preserved : goal.loop-s-preserved
loop-s-preserved c =
    let n = c.args.line.now.number in
    let l = c.loop-s in
    let k : c.args.line.now.count / 2 - l.s ≡ suc (c.args.line.now.count / 2 - l.s - 1) = omega arith in
    let left : c.args.line.now.count / 2 - (l.s + 1) ≡ c.args.line.now.count / 2 - l.s - 1 = omega arith in
    let at : 2 * (l.s + 1) ≡ 2 * l.s + 2 = omega arith in
    let turn = rises n (2 * l.s) (c.args.line.now.count / 2 - l.s - 1) l.q l.p (omega (arith, c.element-x.ensures, c.if-x-q.false)) (omega (arith, c.element-y.ensures, c.if-y-p.false)) in
    (λ i. rising n (at i) (left i) (c.element-x.ensures i) (c.element-y.ensures i)) ∙ (sym (ap (λ (m : ℕ). rising n (2 * l.s) m l.q l.p) k ∙ turn) ∙ l.invariant)

pub returns : goal.returns
unfolding rising
returns c =
    let n = c.args.line.now.number in
    let l = c.loop-s in
    let k : c.args.line.now.count / 2 - l.s ≡ 0 = omega arith in
    sym (ap (λ (m : ℕ). rising n (2 * l.s) m l.q l.p) k) ∙ l.invariant
