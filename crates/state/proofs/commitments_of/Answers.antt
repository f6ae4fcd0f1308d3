-- Each commitment is made of the number at its place.
-- Assumes nothing.
use Rattle.std.proofs.Common.{rules, get_or}
use Rattle.finite.proofs.Chains.{tabulate_from_fn}
use Rattle.state.specs.Numbers.{commitments_of}
use Rattle.state.proofs.commitments_of.Goals as goal

pub returns : goal.returns
unfolding commitments_of
returns c =
    tabulate_from_fn (λ j. record { 0 = get_or c.args.commitment.now j 0 }) _ _ c.from_fn.ensures.items (λ i y q l k. search rules)
