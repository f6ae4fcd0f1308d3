-- Each unit's energy.
-- Assumes nothing.
use Rattle.std.proofs.Common.{rules, ℕ}
use Rattle.finite.proofs.Chains.{tabulate_from_fn}
use Rattle.allocation.specs.Blocks.{filling_at}
use Rattle.allocation.proofs.energies_of.Goals as goal

pub returns : goal.returns
returns c = tabulate_from_fn (λ (k : ℕ). (filling_at c.args.fillings.now k).energy) _ _ c.from_fn.ensures.items (λ i y q l k. search rules)
