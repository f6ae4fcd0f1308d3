-- The test of each place is the definition's.
-- Assumes nothing.
use Rattle.std.proofs.Common.{rules}
use Rattle.finite.proofs.Chains.{every_range}
use Rattle.record.specs.Spans.{place_minutes, minutes_hold}
use Rattle.record.proofs.minutes_hold.Goals as goal

pub returns : goal.returns
unfolding minutes_hold
returns c = every_range (place_minutes c.args.hour.now c.args.units) 8 _ (search rules) c.all.ensures.ran (λ x y q k. search rules)
