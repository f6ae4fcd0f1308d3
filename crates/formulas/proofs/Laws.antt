-- What the crates above use of the items: how large each can be.
-- Assumes nothing.
use mathlib.Core.Path.{◌≡◌}
use mathlib.Core.Bool.{Bool, true, false}
use Prim.Native.Nat.{ℕ, ◌+◌, ◌*◌, ◌-◌, ◌≤◌}
use native.Mathlib.Nat.{mul-le-mul}
use native.Mathlib.Omega.{arith}
use Rattle.energy.specs.declared.GrossKwh.{GrossKwh}
use Rattle.energy.specs.declared.NetKwh.{NetKwh}
use Rattle.energy.proofs.Laws.{pay_most}
use Rattle.formulas.specs.declared.Deviations.{Deviations}
use Rattle.formulas.specs.Items.{energy_pay, availability, declaration_ceiling, refund_kwh, refund, drawn_pay}

-- item 1: 10^7 a grain are a Rial a grain
pub energy_pay_most : (cost n : ℕ) → cost ≤ n * 10000000 → energy_pay cost ≤ n
unfolding energy_pay
energy_pay_most cost n h = omega arith

-- items 2 and 3: at most 10^10
module _ (declared : NetKwh) (cpf bar : ℕ) (able : declared.0 ≤ 1000000) (c : cpf ≤ 10000) (b : bar ≤ 1000000) where
  pub availability_most : (gate : NetKwh) → availability declared gate cpf bar ≤ 10000000000
  unfolding availability
  availability_most gate = pay_most cpf bar (record { 0 = declared.0 - gate.0 }) (omega arith) c b

  pub refund_most : (real : NetKwh) (d : Deviations) (allowed : NetKwh) → refund declared real d allowed cpf bar ≤ 10000000000
  unfolding refund refund_kwh
  refund_most real d allowed = pay_most cpf bar (refund_kwh declared real d allowed) (omega arith) c b

-- A is at most 6,000 over the power
pub ceiling_most : (season : Bool) (power : GrossKwh) → (declaration_ceiling season power).0 ≤ power.0 + 6000
unfolding declaration_ceiling
ceiling_most true power = omega arith
ceiling_most false power = omega arith

-- item 5: at most 8 × 10^10
pub drawn_most : (reverse net : NetKwh) (ceiling loss : ℕ) → reverse.0 ≤ 8000000 → ceiling ≤ 10000000 → drawn_pay reverse net ceiling loss ≤ 80000000000
unfolding drawn_pay
drawn_most reverse net ceiling loss r p =
    let d : reverse.0 - net.0 ≤ 8000000 = omega arith in
    let k : 10000 - loss ≤ 10000 = omega arith in
    omega (arith, mul-le-mul (mul-le-mul d p) k)

-- its factors in the order in which the code multiplies them
pub drawn_factors : (drawn kept ceiling : ℕ) → drawn * kept * ceiling ≡ drawn * ceiling * kept
drawn_factors drawn kept ceiling = omega arith
