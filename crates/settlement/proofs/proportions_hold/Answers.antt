-- The test of each place is the definition's; a unit of the plant is in the ranges that the test asks for.
-- Assumes nothing.
use Rattle.std.proofs.Common.{rules, cond, true}
use Rattle.std.proofs.lemmas.Iterator.{serves_from_Range}
use Rattle.finite.proofs.Chains.{every_range}
use Rattle.units.specs.Units.{member_at}
use Rattle.record.specs.Spans.{unit_at}
use Rattle.deviation.specs.Proportions.{unit_proportioned}
use Rattle.terms.specs.Terms.{terms_at}
use Rattle.settlement.specs.Ranges.{proportions_by}
use Rattle.settlement.proofs.Taken.{given_unit}
use Rattle.settlement.proofs.proportions_hold.Goals as goal

pub all-requires-clause-callable : goal.all-requires-clause-callable
all-requires-clause-callable c =
    serves_from_Range (λ x q k. search rules) (λ x low high. let g = given_unit c.args.day.now c.args.hour.now c.requires x in search rules)

pub returns : goal.returns
unfolding proportions_by
returns c =
    let day = c.args.day.now in
    every_range (λ k. cond (member_at day.units k) (unit_proportioned (terms_at day k).own (unit_at c.args.hour.now k)) true) 8 _ (search rules) c.all.ensures.ran (λ x y q k. search rules)
