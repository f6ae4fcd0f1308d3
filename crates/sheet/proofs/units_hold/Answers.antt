-- The places are asked one by one.
-- Assumes nothing.
use Rattle.std.proofs.Common.{rules, ℕ}
use Rattle.finite.proofs.Chains.{every_range}
use Rattle.sheet.specs.Ranges.{place_holds, unit_at}
use Rattle.sheet.proofs.units_hold.Goals as goal

pub returns : goal.returns
returns c =
    let a = c.args in
    every_range (λ (k : ℕ). place_holds a.units k (unit_at a.unit.now k)) 8 _ (search rules) c.all.ensures.ran (λ x y q k. search rules)
