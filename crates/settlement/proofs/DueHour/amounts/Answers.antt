-- The amounts of each place are the definition's.
-- Assumes nothing.
use Rattle.std.proofs.Common.{rules, get_or}
use Rattle.finite.proofs.Chains.{tabulate_from_fn}
use Rattle.settlement.specs.Ranges.{place_amounts}
use Rattle.settlement.proofs.DueHour.amounts.Goals as goal

pub returns : goal.returns
returns c =
    let s = c.args.self.now in
    tabulate_from_fn (λ k. place_amounts s.day.now s.hour.now s.commitment.now (get_or c.args.energy.now k (record { 0 = 0 })) k) _ _ c.from_fn.ensures.items (λ i y q l k. search rules)
