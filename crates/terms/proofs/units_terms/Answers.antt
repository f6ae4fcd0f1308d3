-- What is used of each place's unit is the definition's.
-- Assumes nothing.
use Rattle.std.proofs.Common.{rules}
use Rattle.finite.proofs.Chains.{tabulate_from_fn}
use Rattle.sheet.specs.Ranges.{unit_at as sheet_unit}
use Rattle.terms.specs.Terms.{unit_terms}
use Rattle.terms.proofs.units_terms.Goals as goal

pub returns : goal.returns
returns c = tabulate_from_fn (λ k. unit_terms (sheet_unit c.args.sheet.now.unit k) c.args.h) _ _ c.from_fn.ensures.items (λ i y q l k. search rules)
