-- The steps are asked one by one.
-- Assumes nothing.
use Rattle.std.proofs.Common.{rules}
use Rattle.finite.proofs.Chains.{every_range}
use Rattle.offer.specs.Offer.{step_in_range}
use Rattle.offer.proofs.steps_in_range.Goals as goal

pub returns : goal.returns
returns c =
    let o = c.args.offer.now in
    every_range (step_in_range o) o.steps _ (search rules) c.all.ensures.ran (λ x y q k. search rules)
