-- The quotient rounded up, by std's word and by the definition: both times the divisor lie less than a divisor above the numerator.
-- Assumes nothing.
use Rattle.std.proofs.Common.{◌≡◌, ◌∙◌, ℕ, suc, ◌+◌, ◌*◌, ◌-◌, ◌<◌, ◌≤◌, arith}
use Rattle.std.specs.Int.{div_ceil}
use Rattle.std.proofs.lemmas.Grind.{div_ceil_times}
use native.Mathlib.Decide.{dec_lt}
use native.Mathlib.Nat.{div-add-mod', mod-lt, mul-le-mul_right, suc-mul}
use Rattle.energy.specs.Energy.{gate_of, quotient_up}
use Rattle.energy.proofs.gate_of.Goals as goal

upward : (x y : ℕ) → 0 < y → div_ceil x y ≡ quotient_up x y
upward x y p = go (dec_lt (div_ceil x y) (quotient_up x y)) (dec_lt (quotient_up x y) (div_ceil x y))
  where
    apart : (s t : ℕ) → s < t → suc s * y ≤ t * y
    apart s t l = mul-le-mul_right y l

    go : Dec (div_ceil x y < quotient_up x y) → Dec (quotient_up x y < div_ceil x y) → div_ceil x y ≡ quotient_up x y
    go (yes l) d = absurd (omega (arith, apart _ _ l, suc-mul (div_ceil x y) y, div_ceil_times x y p, div-add-mod' (x + (y - 1)) y, mod-lt (x + (y - 1)) {m = y} p))
    go (no k) (yes l) = absurd (omega (arith, apart _ _ l, suc-mul (quotient_up x y) y, div_ceil_times x y p, div-add-mod' (x + (y - 1)) y, mod-lt (x + (y - 1)) {m = y} p))
    go (no k) (no l) = omega arith

pub returns : goal.returns
unfolding gate_of
returns c =
    let e = c.div_ceil.ensures ∙ upward (c.args.commitment.0 * 10000) (10000 - c.args.loss) (omega arith) in
    λ i. record { 0 = e i }
