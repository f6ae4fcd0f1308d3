-- The list of its own, and the empty book.
-- Assumes nothing.
use lib.ListN.{replicate}
use Rattle.asks.specs.Extent.{extent_of}
use Rattle.daybook.specs.Replay.{own_list, call_lines}
use Rattle.daybook.proofs.Steps.{same_bytes}
use Rattle.daybook.proofs.put_day.Goals as goal

pub returns : goal.returns
unfolding own_list
returns c =
    let g = c.args in
    same_bytes g.out.now c.put_calls.new.out c.put_calls.ensures
    (λ i. call_lines g.sheet.now g.text.now (record { list = replicate 2000 (c.no_posting-list.ensures i); count = 0; book = c.empty_book.ensures i; at = g.from })
    (extent_of g.text.now g.from))
