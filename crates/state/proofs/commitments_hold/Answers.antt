-- `all` is the test over the places.
use Rattle.std.proofs.Common.{rules, ℕ}
use Rattle.finite.proofs.Chains.{every_range}
use Rattle.units.specs.Units.{member_at}
use Rattle.sheet.specs.Ranges.{unit_at}
use Rattle.state.specs.Sizes.{places}
use Rattle.state.specs.Ranges.{place_holds}
use Rattle.state.proofs.commitments_hold.Goals as goal

pub returns : goal.returns
returns c =
    let s = c.args.sheet.now in
    every_range (λ (k : ℕ). place_holds (member_at s.units k) (unit_at s.unit k) c.args.commitment.now k) places _
    (search rules) c.all.ensures.ran (λ x y q k. search rules)
