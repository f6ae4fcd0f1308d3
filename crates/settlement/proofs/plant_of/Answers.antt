-- What the plant has of each place is the definition's.
-- Assumes nothing.
use Rattle.std.proofs.Common.{rules}
use Rattle.finite.proofs.Chains.{tabulate_from_fn}
use Rattle.settlement.specs.Ranges.{plant_unit_by}
use Rattle.settlement.proofs.plant_of.Goals as goal

pub returns : goal.returns
returns c =
    let day = c.args.day.now in
    let unit = tabulate_from_fn (plant_unit_by day c.args.hour.now c.args.commitment.now) _ _ c.from_fn.ensures.items (λ i y q l k. search rules) in
    λ i. record { loss = day.rates.loss; units = day.units; unit = unit i }
