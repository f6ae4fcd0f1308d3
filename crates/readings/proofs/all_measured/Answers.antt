-- The test of each place is the definition's.
-- Assumes nothing.
use Rattle.std.proofs.Common.{rules}
use Rattle.std.specs.Prelude.{cond, true, is_some}
use Rattle.finite.proofs.Chains.{every_range}
use Rattle.units.specs.Units.{member_at}
use Rattle.record.specs.Spans.{unit_at}
use Rattle.readings.specs.Readings.{all_measured}
use Rattle.readings.proofs.all_measured.Goals as goal

pub returns : goal.returns
unfolding all_measured
returns c =
    every_range (λ k. cond (member_at c.args.units k) (is_some (unit_at c.args.hour.now k).reading) true) 8 _ (search rules) c.all.ensures.ran (λ x y q k. search rules)
