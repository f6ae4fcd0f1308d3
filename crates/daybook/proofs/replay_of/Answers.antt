-- The place stays within the buffer.
-- Assumes nothing.
use Rattle.std.proofs.Common.{rules}
use Rattle.daybook.specs.Replay.{replayed}
use Rattle.daybook.proofs.Within.{printed_within}
use Rattle.daybook.proofs.replay_of.Goals as goal

pub returns-clause-upper_bound : goal.returns-clause-upper_bound
returns-clause-upper_bound c = printed_within c.args.out.now _ _ (replayed c.args.text.now) (search rules)
