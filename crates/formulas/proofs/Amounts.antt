-- Signed amounts by their sizes, which are natural numbers: what is paid or owed, sums, differences and negations, and that a number whose
-- size is below 2^63 is what its machine word says.
-- Assumes nothing.
use mathlib.Core.Path.{◌≡◌, refl}
use mathlib.Core.Bool.{Bool, true, false, cond}
use Prim.Native.Nat.{ℕ, suc, zero, ◌+◌, ◌-◌, ◌^◌, ◌≤◌, ◌<◌}
use native.Mathlib.Omega.{arith}
use borrow.Author.Tests.{ltb-true}
use lib.Dec.{ltb}
use lib.IntN.{ℤ, pos, negsuc, nat_abs, sub_ℕ, ◌+ℤ◌, ◌-ℤ◌, neg_ℤ}
use lib.Signed.{mag}
use mir.Syntax.{w64}
use mir.Val.{SFits, to_z, of_z}
use mir.Facts.{to_z-of_z}
use Rattle.formulas.specs.Items.{owed}

pub mag_le : (z : ℤ) → mag z ≤ nat_abs z
mag_le (pos n) = omega arith
mag_le (negsuc n) = omega arith

pub nat_abs_neg : (z : ℤ) → nat_abs (neg_ℤ z) ≡ nat_abs z
nat_abs_neg (pos zero) = refl
nat_abs_neg (pos (suc n)) = refl
nat_abs_neg (negsuc n) = refl

-- |a - b| is at most a + b, for two naturals
by_test : (t : Bool) (a b : ℕ) → ltb a b ≡ t → nat_abs (cond t (negsuc (b - suc a)) (pos (a - b))) ≤ a + b
by_test true a b e = omega (arith, ltb-true a b e)
by_test false a b e = omega arith

sub_abs : (a b : ℕ) → nat_abs (sub_ℕ a b) ≤ a + b
sub_abs a b = by_test (ltb a b) a b refl

pub nat_abs_add : (a b : ℤ) → nat_abs (a +ℤ b) ≤ nat_abs a + nat_abs b
nat_abs_add (pos a) (pos b) = omega arith
nat_abs_add (pos a) (negsuc b) = sub_abs a (suc b)
nat_abs_add (negsuc a) (pos b) = omega (arith, sub_abs b (suc a))
nat_abs_add (negsuc a) (negsuc b) = omega arith

pub nat_abs_sub : (a b : ℤ) → nat_abs (a -ℤ b) ≤ nat_abs a + nat_abs b
nat_abs_sub a b = omega (arith, nat_abs_add a (neg_ℤ b), nat_abs_neg b)

pub fits : (z : ℤ) → nat_abs z < 2 ^ 63 → SFits w64 z
fits z h = record { sfits = omega (arith, mag_le z) }

-- a signed number is what its bits say; of a call's result, `back _ c.f.ok`
pub back : (z : ℤ) → mag z < 2 ^ 63 → to_z w64 (of_z w64 z) ≡ z
back z h = to_z-of_z {w = w64} (record { sfits = h })

pub small : (z : ℤ) → nat_abs z < 2 ^ 63 → to_z w64 (of_z w64 z) ≡ z
small z h = back z (omega (arith, mag_le z))

-- an amount's size is its magnitude
pub owed_size : (n : ℕ) → nat_abs (owed n) ≡ n
owed_size n = nat_abs_neg (pos n)
