-- `all` is the test over the items.
use Rattle.std.proofs.Common.{rules}
use lib.IntN.{ℤ, pos}
use Rattle.finite.proofs.Chains.{every_slice}
use Rattle.state.specs.Sizes.{items}
use Rattle.state.specs.Ranges.{within, most_amount}
use Rattle.state.proofs.items_hold.Goals as goal

pub returns : goal.returns
returns c =
    every_slice (λ (z : ℤ). within z most_amount) c.args.amounts.now.item items (pos 0) _ (search rules) (search rules) c.all.ensures.ran
    (λ x y q k. search rules)
