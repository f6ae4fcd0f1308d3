-- Each entry is made of the five numbers at its place.
-- Assumes nothing.
use Rattle.std.proofs.Common.{rules}
use Rattle.finite.proofs.Chains.{tabulate_from_fn}
use Rattle.state.specs.Numbers.{amounts_at, amounts_of}
use Rattle.state.proofs.amounts_of.Goals as goal

pub returns : goal.returns
unfolding amounts_of
returns c = tabulate_from_fn (amounts_at c.args.amounts.now) _ _ c.from_fn.ensures.items (λ i y q l k. search rules)
