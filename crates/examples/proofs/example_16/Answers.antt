-- Each of the three spans is in range.
-- Assumes nothing.
use Rattle.examples.proofs.Ranges.{three_spans}
use Rattle.examples.proofs.example_16.Goals as goal

pub split_example-requires-clause-by_index : goal.split_example-requires-clause-by_index
split_example-requires-clause-by_index g c = three_spans _ _ c.span_of-first.ensures c.span_of-second.ensures _ c.span_of-third.ensures
