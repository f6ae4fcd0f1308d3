-- The ones of a mask, and its bits: the digits below 2 ^ n are counted one by one, and a shift and a mask give a single one.
-- Assumes nothing.
use mathlib.Core.Path.{◌≡◌, refl, sym, ap, ◌∙◌}
use mathlib.Core.Logic.{⊎_elim}
use Prim.Native.Nat.{ℕ, zero, suc, ◌+◌, ◌*◌, ◌/◌, ◌%◌, ◌^◌, ◌<◌}
use native.Mathlib.Nat.{mod-lt, mod-eq_of_lt, mod-one, pow-succ', zero-lt-suc, add_comm, one-mul, eq-zero-or-pos, div-add-mod'}
use native.Mathlib.Omega.{arith}
use lib.Arith.{mod-mul, bin_ind}
use lib.Pow.{pow_pos, shl_exact}
use lib.Bits.{bit_and, and_mask}
use lib.Count.{ones, ones_cat, ones_step}
use Rattle.finite.specs.Finite.{sum}
use Rattle.units.specs.Units.{bit, members}

ones_bit : (b : ℕ) → b < 2 → ones b ≡ b
unfolding ones
ones_bit zero h = refl
ones_bit (suc zero) h = refl
ones_bit (suc (suc b)) h = absurd (omega arith)

pub bit_lt : (m k : ℕ) → bit m k < 2
bit_lt m k = mod-lt (m / 2 ^ k) (zero-lt-suc 1)

pub ones_below : (m n : ℕ) → ones (m % 2 ^ n) ≡ members m n
unfolding members sum ones
ones_below m zero = ap ones (mod-one m)
ones_below m (suc n) =
    ap (λ (x : ℕ). ones (m % x)) (pow-succ' 2 n)
    ∙ ap ones (mod-mul m {m = 2} {c = 2 ^ n} (zero-lt-suc 1) (pow_pos n))
    ∙ ones_cat n (bit m n) (m % 2 ^ n) (mod-lt m (pow_pos n))
    ∙ ap (λ (x : ℕ). x + ones (m % 2 ^ n)) (ones_bit (bit m n) (bit_lt m n))
    ∙ add_comm (bit m n) (ones (m % 2 ^ n))
    ∙ ap (λ (x : ℕ). x + bit m n) (ones_below m n)

pub ones_members : (m n : ℕ) → m < 2 ^ n → ones m ≡ members m n
ones_members m n h = ap ones (sym (mod-eq_of_lt h)) ∙ ones_below m n

-- a one shifted to place k
pub one_shifted : (k : ℕ) → k < 64 → 1 * 2 ^ k % 2 ^ 64 ≡ 2 ^ k
one_shifted k h = shl_exact {a = 1} 1 k 64 (omega arith) (omega arith) ∙ one-mul (2 ^ k)

-- shift and mask is the bit
pub shifted_bit : (m k : ℕ) → bit_and (m / 2 ^ k) 1 ≡ bit m k
shifted_bit m k = and_mask (m / 2 ^ k) 1

-- a mask over 0 has a one
pub ones_positive : (m : ℕ) → 0 < m → 0 < ones m
ones_positive = bin_ind (λ (m : ℕ). 0 < m → 0 < ones m) (λ h. absurd (omega arith)) step
  where
    step : (m : ℕ) → (0 < m / 2 → 0 < ones (m / 2)) → 0 < m → 0 < ones m
    step m h l =
        ⊎_elim
        (λ (e : m / 2 ≡ 0). omega (arith, ones_step m, div-add-mod' m 2))
        (λ (k : 0 < m / 2). omega (arith, ones_step m, h k))
        (eq-zero-or-pos (m / 2))
