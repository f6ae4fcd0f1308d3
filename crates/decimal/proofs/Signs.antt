-- The digits of a number with its sign, by the sign.
-- Assumes nothing.
use mathlib.Core.Path.{◌≡◌, refl}
use mathlib.Core.Bool.{true, false}
use mathlib.Core.List.{◌∷◌}
use Prim.Native.Nat.{ℕ}
use native.Mathlib.Omega.{arith}
use borrow.Author.Tests.{ltb-true}
use lib.IntN.{ℤ, pos, negsuc, nat_abs}
use lib.Signed.{lt_z}
use Rattle.decimal.specs.Decimal.{digits, signed}

pub signed_below : (z : ℤ) → lt_z z (pos 0) ≡ true → signed z ≡ 45 ∷ digits (nat_abs z)
unfolding signed
signed_below (pos n) t = absurd (omega (arith, ltb-true n 0 t))
signed_below (negsuc n) t = refl

pub signed_above : (z : ℤ) → lt_z z (pos 0) ≡ false → signed z ≡ digits (nat_abs z)
unfolding signed
signed_above (pos n) t = refl
signed_above (negsuc n) t = absurd (let e : ◌≡◌ {A = ℕ} 0 1 = cc in omega arith)
