-- The array is made by index, from the pairs of the line.
-- Assumes nothing.
use Rattle.std.proofs.Common.{rules}
use Prim.Native.Nat.{◌/◌}
use Rattle.finite.proofs.Chains.{tabulate_from_fn}
use Rattle.sheet_text.specs.Day.{step_by, offer_by}
use Rattle.sheet_text.proofs.offer_by.Goals as goal

pub returns : goal.returns
unfolding offer_by
returns c =
    let l = c.args.line.now in
    let step = tabulate_from_fn (step_by l) _ _ c.from_fn.ensures.items (λ i y q l k. search rules) in
    λ i. record { steps = l.count / 2; step = step i }
