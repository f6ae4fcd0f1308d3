-- The charge of a failed test. The table of t(n) keeps its rule by one test that antt computes. Each of the three roundings loses less than
-- one, and b is at most 1.25 × 10^10, t(n) at most 3.3 × 10^8: so the charge falls short by under 1 + 125 + 3.3 Rial.
-- Assumes nothing.
use mathlib.Core.Path.{◌≡◌, refl}
use mathlib.Core.List.{List, [], ◌∷◌}
use Prim.Native.Nat.{ℕ, zero, suc, ◌+◌, ◌*◌, ◌/◌, ◌^◌, ◌≤◌, ◌<◌}
use native.Mathlib.Nat.{mul-le-mul, mul-le-mul_left, mul-le-mul_right, div-add-mod', mod-lt}
use native.Mathlib.Omega.{arith}
use borrow.Author.Tests.{eqb-true, leb-true}
use lib.Dec.{eqb, leb}
use lib.ListN.{get_or}
use Rattle.finite.specs.Finite.{every}
use Rattle.finite.proofs.Tests.{every_at}
use Rattle.charge.specs.Test.{base_charge, growth, hours_counted, charge_of, NearExact}

-- the table of t(n)
abbrev pub table : List ℕ
table =
    100000000
    ∷ 105000000
    ∷ 110250000
    ∷ 115762500
    ∷ 121550625
    ∷ 127628156
    ∷ 134009564
    ∷ 140710042
    ∷ 147745544
    ∷ 155132821
    ∷ 162889462
    ∷ 171033935
    ∷ 179585632
    ∷ 188564914
    ∷ 197993159
    ∷ 207892817
    ∷ 218287458
    ∷ 229201831
    ∷ 240661923
    ∷ 252695019
    ∷ 265329770
    ∷ 278596259
    ∷ 292526071
    ∷ 307152375
    ∷ 322509994
    ∷ []

-- its rule, at each place
pub table_at : (n : ℕ) → n < 25 → get_or table n 0 ≡ growth n
unfolding every growth
table_at n h = eqb-true (get_or table n 0) (growth n) (every_at 25 (λ n. eqb (get_or table n 0) (growth n)) refl n h)

pub growth_most : (n : ℕ) → n ≤ 24 → growth n ≤ 322509994
unfolding every growth
growth_most n h = leb-true (growth n) 322509994 (every_at 25 (λ n. leb (growth n) 322509994) refl n (omega arith))

pub hours_most : (since : ℕ) → hours_counted since ≤ 24
unfolding hours_counted
hours_most since = omega arith

-- a quotient rounded down
floored : (a d : ℕ) → 0 < d → (a / d * d ≤ a) × (a < (a / d + 1) * d)
floored a d some = (omega (arith, div-add-mod' a d), omega (arith, div-add-mod' a d, mod-lt a some))

power_positive : (n : ℕ) → 0 < 20 ^ n
power_positive zero = omega arith
power_positive (suc n) = omega (arith, power_positive n)

-- three roundings, one after the other: of p / 10^9, of 10^8 × g / s, and of the product of these two over 10^8
module _ (p g s b t c : ℕ) (base : (b * 1000000000 ≤ p) × (p < (b + 1) * 1000000000)) (grown : (t * s ≤ 100000000 * g) × (100000000 * g < (t + 1) * s)) (rounded : (c * 100000000 ≤ b * t) × (b * t < (c + 1) * 100000000)) where
  not_over : c * (1000000000 * s) ≤ p * g
  not_over = omega (arith, mul-le-mul_right s rounded.0, mul-le-mul base.0 grown.0)

  under : b ≤ 12500000000 → t ≤ 322509994 → p * g < (c + 130) * (1000000000 * s)
  under hb ht =
      let h : b * t + b + t + 1 ≤ (c + 130) * 100000000 = omega arith in
      let k : p ≤ (b + 1) * 1000000000 = omega arith in
      let l : 100000000 * g + 1 ≤ (t + 1) * s = omega arith in
      omega (arith, mul-le-mul_right s h, mul-le-mul_right g k, mul-le-mul_left (b + 1) l)

-- W × 125 × cpf × bar is a machine number, and b is at most 1.25 × 10^10
module _ (w cpf bar : ℕ) (range : (w ≤ 10000000) × (cpf ≤ 10000) × (bar ≤ 1000000)) where
  pub rated_most : w * 125 * cpf ≤ 12500000000000
  rated_most = let h : w * 125 ≤ 1250000000 = omega arith in omega (arith, mul-le-mul h range.1)

  pub product_most : w * 125 * cpf * bar ≤ 12500000000000000000
  product_most = omega (arith, mul-le-mul rated_most range.2)

  pub base_most : base_charge w cpf bar ≤ 12500000000
  unfolding base_charge
  base_most = omega (arith, product_most)

  module _ (since : ℕ) where
    -- b × t(n) is a machine number, and the charge at most 4.1 × 10^10
    pub grown_most : base_charge w cpf bar * growth (hours_counted since) ≤ 4031374925000000000
    grown_most = omega (arith, mul-le-mul base_most (growth_most (hours_counted since) (hours_most since)))

    pub charge_most : charge_of w since cpf bar ≤ 41000000000
    unfolding charge_of
    charge_most = omega (arith, grown_most)

    -- "never exceeds the exact product .. and falls short of it by under 130 Rial"
    pub charge_near : NearExact w cpf bar (hours_counted since) (charge_of w since cpf bar)
    unfolding base_charge growth charge_of
    charge_near =
        let n = hours_counted since in
        let p = w * 125 * cpf * bar in
        let b = base_charge w cpf bar in
        let t = growth n in
        let base = floored p 1000000000 (omega arith) in
        let grown = floored (100000000 * 21 ^ n) (20 ^ n) (power_positive n) in
        let rounded = floored (b * t) 100000000 (omega arith) in
        record {
          not_over = not_over p (21 ^ n) (20 ^ n) b t (charge_of w since cpf bar) base grown rounded;
          under_130 = under p (21 ^ n) (20 ^ n) b t (charge_of w since cpf bar) base grown rounded base_most (growth_most n (hours_most since));
        }
