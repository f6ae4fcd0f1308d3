-- The span of each place is the one given there, or none.
-- Assumes nothing.
use Rattle.std.proofs.Common.{rules, ℕ, get_or}
use Rattle.finite.proofs.Chains.{tabulate_from_fn}
use Rattle.record.specs.Empty.{no_span}
use Rattle.examples.proofs.six_spans.Goals as goal

pub returns : goal.returns
returns c = tabulate_from_fn (λ (i : ℕ). get_or c.args.given.now i no_span) _ _ c.from_fn.ensures.items (λ i y q l k. search rules)
