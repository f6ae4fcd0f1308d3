-- What is taken of each kind is the definition's, by the kind's row.
-- Assumes nothing.
use Rattle.std.proofs.Common.{rules}
use Rattle.finite.proofs.Chains.{tabulate_from_fn}
use Rattle.charge.specs.Test.{w_part}
use Rattle.charge.proofs.weighted_parts.Goals as goal

pub returns : goal.returns
returns c = tabulate_from_fn (w_part c.args.d c.args.repaired) _ _ c.from_fn.ensures.items (λ i y q l k. search rules)
