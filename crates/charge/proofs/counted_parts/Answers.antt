-- What is taken of each kind is the definition's, by the kind's row.
-- Assumes nothing.
use Rattle.std.proofs.Common.{rules, ℕ, Bool}
use Rattle.finite.proofs.Chains.{tabulate_from_fn}
use Rattle.energy.specs.declared.NetKwh.{NetKwh}
use Rattle.formulas.specs.declared.Deviations.{Deviations}
use Rattle.charge.specs.Test.{q_part}
use Rattle.charge.proofs.counted_parts.Goals as goal

abbrev part : Deviations → Bool → ℕ → NetKwh
part d repaired j = record { 0 = q_part d repaired j }

pub returns : goal.returns
returns c =
    tabulate_from_fn (part c.args.d c.args.repaired) _ _ c.from_fn.ensures.items
    (λ i y q l k. search rules)
