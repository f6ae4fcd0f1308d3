-- `all` is the test over the entries.
use Rattle.std.proofs.Common.{rules}
use Rattle.finite.proofs.Chains.{every_slice}
use Rattle.state.specs.Sizes.{entries}
use Rattle.state.specs.Book.{past_amounts}
use Rattle.state.specs.Ranges.{items_hold}
use Rattle.state.proofs.amounts_hold.Goals as goal

pub returns : goal.returns
returns c =
    every_slice items_hold c.args.amounts.now entries past_amounts _ (search rules) (search rules) c.all.ensures.ran
    (λ x y q k. search rules)
