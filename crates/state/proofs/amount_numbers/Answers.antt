-- Each number is the item at its place, five to an entry.
-- Assumes nothing.
use Rattle.std.proofs.Common.{rules, ◌/◌, ◌%◌, get_or}
use Rattle.finite.proofs.Chains.{tabulate_from_fn}
use Rattle.state.specs.Sizes.{items}
use Rattle.state.specs.Book.{past_amounts, item_of}
use Rattle.state.specs.Numbers.{amount_numbers}
use Rattle.state.proofs.amount_numbers.Goals as goal

pub returns : goal.returns
unfolding amount_numbers
returns c =
    let a = c.args.amounts.now in
    tabulate_from_fn (λ n. item_of (get_or a (n / items) past_amounts) (n % items)) _ _ c.from_fn.ensures.items (λ i y q l k. search rules)
