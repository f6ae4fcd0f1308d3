-- Each list is stored behind the one before it, and its entries are the book's.
-- Assumes nothing.
use Rattle.std.proofs.Common.{ap, ◌∙◌}
use Rattle.state.specs.Sizes.{entries}
use Rattle.state.specs.Numbers.{kwh_of, grains_of}
use Rattle.exports.specs.Exports.{energy_numbers, mark_numbers}
use Rattle.exports.proofs.Put.{put_table}
use Rattle.exports.proofs.put_held.Goals as goal

pub returns : goal.returns
unfolding kwh_of grains_of
returns c =
    let b = c.args.book.now in
    let first = put_table c.args.out.now c.kwh_of.result c.store_all.new.out 0 entries 0 _ c.kwh_of.ensures (c.store_all.ensures 0) in
    let last = put_table c.store_all-2.new.out c.grains_of.result c.store_all-3.new.out 216 entries 0 _ c.grains_of.ensures (c.store_all-3.ensures 0) in
    last ∙ ap (energy_numbers b) (c.store_all-2.ensures 0 ∙ ap (mark_numbers b) first)
