-- The `real` of each place is the definition's.
-- Assumes nothing.
use Rattle.std.proofs.Common.{rules}
use Rattle.finite.proofs.Chains.{tabulate_from_fn}
use Rattle.allocation.specs.Allocation.{net_at}
use Rattle.allocation.proofs.reals_of.Goals as goal

pub returns : goal.returns
returns c = tabulate_from_fn (net_at c.args.plant.now) _ _ c.from_fn.ensures.items (λ i y q l k. search rules)
