-- The code's tests are the definition's.
-- Assumes nothing.
use mathlib.Core.Path.{sym, ◌∙◌, ap}
use Prim.Native.Nat.{ℕ}
use native.Mathlib.Omega.{arith}
use Rattle.std.specs.declared.option.Option.TheVariants.{Some as at}
use Rattle.allocation.proofs.Rounds.{better_first, better_new, better_kept}
use Rattle.allocation.proofs.better_of.Goals as goal

pub returns-in_default : goal.returns-in_default
returns-in_default c = λ next q e h. ap (λ (p : ℕ). at (c.args.v, p)) (sym e) ∙ better_first next c.args.v q (sym h ∙ c.in_default.is)

pub returns-then-price-low : goal.returns-then-price-low
returns-then-price-low c =
    let f = c.in-Some in
    λ next q e h.
    ap (λ (p : ℕ). at (c.args.v, p)) (sym e) ∙ better_new next c.args.v q f.field-0-0 f.low (sym h ∙ f.is) (omega (arith, c.if-price-low.true))

pub returns : goal.returns
returns c =
    let f = c.in-Some in
    λ next q e h. f.is ∙ better_kept next c.args.v q f.field-0-0 f.low (sym h ∙ f.is) (omega (arith, c.if-price-low.false))
