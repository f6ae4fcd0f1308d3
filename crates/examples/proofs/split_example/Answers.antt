-- The unit is in range: its spans are those given, and its figures are asked for.
-- Assumes nothing.
use Rattle.std.proofs.Common.{rules}
use Rattle.examples.proofs.Ranges.{spans_in}
use Rattle.examples.proofs.split_example.Goals as goal

pub split-requires : goal.split-requires
split-requires g c =
    let b = c.requires.bounds in
    let spans = spans_in _ _ c.six_spans.ensures b.3 c.requires.by_index in
    search (rules, spans)
