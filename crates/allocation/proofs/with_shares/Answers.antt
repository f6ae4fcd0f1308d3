-- Each unit's ceiling: its `real` at the hub and its share are machine numbers, and so is their sum.
-- Assumes nothing.
use Rattle.std.proofs.Common.{rules, arith, ℕ, ◌+◌, get_or}
use Rattle.finite.proofs.Chains.{tabulate_from_fn}
use Rattle.energy.specs.Energy.{hub_of}
use Rattle.energy.proofs.Laws.{hub_le}
use Rattle.allocation.specs.Allocation.{net_at}
use Rattle.allocation.proofs.Turns.{serves_from_index}
use Rattle.allocation.proofs.with_shares.Goals as goal

pub from_fn-requires : goal.from_fn-requires
from_fn-requires c =
    let plant = c.args.plant.now in (
      omega arith,
      serves_from_index (λ x q k. search rules)
          (λ x l.
          let real = c.requires.0 x in
          let share = c.requires.1 x l in
          let hub = hub_le (net_at plant x) plant.loss in
          grind (arith, real, share, hub)),
    )

pub returns : goal.returns
returns c =
    let plant = c.args.plant.now in
    tabulate_from_fn (λ (k : ℕ). record { 0 = (hub_of (net_at plant k) plant.loss).0 + get_or c.args.shares k 0 }) _ _ c.from_fn.ensures.items
    (λ i y q l k. search rules)
