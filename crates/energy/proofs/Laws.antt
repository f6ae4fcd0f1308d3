-- What the crates above use of the conversions. `net_of` is opened here and in net_of alone: each law about it also holds where own use is
-- rounded to the nearest kWh.
-- Assumes nothing.
use mathlib.Core.Path.{◌≡◌, sym}
use Prim.Native.Nat.{ℕ, zero, suc, ◌+◌, ◌*◌, ◌-◌, ◌≤◌, ◌<◌}
use native.Mathlib.Nat.{mul-le-mul, mul-le-mul_left, mul-le-mul_right, add-mul, suc-mul, zero-mul, div-add-mod', div-lt_iff_lt-mul, mod-lt, zero-div, le_of_suc-le-suc}
use native.Mathlib.Omega.{arith}
use Rattle.finite.specs.Finite.{sum}
use Rattle.energy.specs.declared.GrossKwh.{GrossKwh}
use Rattle.energy.specs.declared.NetKwh.{NetKwh}
use Rattle.energy.specs.declared.HubKwh.{HubKwh}
use Rattle.energy.specs.Energy.{net_of, hub_of, gate_of, grains_of, pay_of}

-- taking a share off leaves at most the whole
pub kept_le : (n share : ℕ) → n * (10000 - share) ≤ n * 10000
kept_le n share = mul-le-mul_left n (omega arith)

-- net is at most gross, and rises with it
pub net_le : (gross : GrossKwh) (own : ℕ) → (net_of gross own).0 ≤ gross.0
unfolding net_of
net_le gross own = omega (arith, kept_le gross.0 own)

pub net_mono : (gross more : GrossKwh) (own : ℕ) → own ≤ 10000 → gross.0 ≤ more.0 → (net_of gross own).0 ≤ (net_of more own).0
unfolding net_of
net_mono gross more own l h = omega (arith, mul-le-mul_right (10000 - own) h)

-- hub energy: at most 10,000 grains a kWh, rising, and additive
pub hub_le : (net : NetKwh) (loss : ℕ) → (hub_of net loss).0 ≤ net.0 * 10000
unfolding hub_of
hub_le net loss = kept_le net.0 loss

pub hub_mono : (net more : NetKwh) (loss : ℕ) → net.0 ≤ more.0 → (hub_of net loss).0 ≤ (hub_of more loss).0
unfolding hub_of
hub_mono net more loss h = mul-le-mul_right (10000 - loss) h

pub hub_add : (a b loss : ℕ) → (hub_of (record { 0 = a + b }) loss).0 ≡ (hub_of (record { 0 = a }) loss).0 + (hub_of (record { 0 = b }) loss).0
unfolding hub_of
hub_add a b loss = add-mul a b (10000 - loss)

pub hub_sum : (n : ℕ) (f : ℕ → ℕ) (loss : ℕ) → sum n (λ u. (hub_of (record { 0 = f u }) loss).0) ≡ (hub_of (record { 0 = sum n f }) loss).0
unfolding sum hub_of
hub_sum zero f loss = sym (zero-mul (10000 - loss))
hub_sum (suc n) f loss = omega (arith, hub_sum n f loss, hub_add (sum n f) (f n) loss)

-- the gate of a commitment is the least net energy whose hub energy reaches it
module _ (commitment : HubKwh) (loss : ℕ) where
  pub gate_reaches : loss < 10000 → (grains_of commitment).0 ≤ (hub_of (gate_of commitment loss) loss).0
  unfolding gate_of hub_of grains_of
  gate_reaches l =
      let b = 10000 - loss in
      let a = commitment.0 * 10000 + (b - 1) in
      let p : 0 < b = omega arith in
      omega (arith, div-add-mod' a b, mod-lt a {m = b} p)

  pub gate_least : (net : NetKwh) → loss < 10000 → (grains_of commitment).0 ≤ (hub_of net loss).0 → (gate_of commitment loss).0 ≤ net.0
  unfolding gate_of hub_of grains_of
  gate_least net l h =
      let b = 10000 - loss in
      let p : 0 < b = omega arith in
      let e : commitment.0 * 10000 + (b - 1) < suc net.0 * b = rw suc-mul (omega arith) in
      le_of_suc-le-suc ((div-lt_iff_lt-mul p).1 e)

  pub gate_ge : loss < 10000 → commitment.0 ≤ (gate_of commitment loss).0
  unfolding grains_of
  gate_ge l = omega (arith, gate_reaches l, hub_le (gate_of commitment loss) loss)

  pub gate_le : loss ≤ 5000 → (gate_of commitment loss).0 ≤ 2 * commitment.0
  unfolding grains_of hub_of
  gate_le l =
      let twice : NetKwh = record { 0 = 2 * commitment.0 } in
      let k : 5000 ≤ 10000 - loss = omega arith in
      gate_least twice (omega arith) (omega (arith, mul-le-mul_left (2 * commitment.0) k))

-- V: nothing for nothing, rising, and at most 10,000 Rial a kWh
module _ (cpf bar : ℕ) where
  pub pay_zero : pay_of (record { 0 = 0 }) cpf bar ≡ 0
  unfolding pay_of
  pay_zero = simp (zero-mul, zero-div)

  pub pay_mono : (k more : NetKwh) → k.0 ≤ more.0 → pay_of k cpf bar ≤ pay_of more cpf bar
  unfolding pay_of
  pay_mono k more h = omega (arith, mul-le-mul_right bar (mul-le-mul_right cpf h))

  pub pay_le : (k : NetKwh) → cpf ≤ 10000 → bar ≤ 1000000 → pay_of k cpf bar ≤ k.0 * 10000
  unfolding pay_of
  pay_le k c b = omega (arith, mul-le-mul (mul-le-mul_left k.0 c) b)

  pub pay_most : (k : NetKwh) → k.0 ≤ 1000000 → cpf ≤ 10000 → bar ≤ 1000000 → pay_of k cpf bar ≤ 10000000000
  pay_most k h c b = omega (arith, pay_le k c b)
