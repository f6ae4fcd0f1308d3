-- At most 10^7 kWh are 10^11 grains, and each costs at most 10^7.
-- Assumes nothing.
use Rattle.std.proofs.Common.{ap, ◌≤◌, arith}
use native.Mathlib.Nat.{mul-le-mul}
use Rattle.energy.specs.declared.HubGrains.{HubGrains}
use Rattle.energy.proofs.Laws.{hub_le}
use Rattle.formulas.proofs.drawn_pay.Goals as goal

pub product-requires : goal.product-requires
product-requires c =
    let grains : c.hub_of-drawn.result.0 ≤ 100000000000
    = omega (arith, ap (λ (g : HubGrains). g.0) c.hub_of-drawn.ensures, hub_le c.above.result c.args.loss, c.above.ensures, c.requires.0) in
    omega (arith, mul-le-mul grains c.requires.1)
