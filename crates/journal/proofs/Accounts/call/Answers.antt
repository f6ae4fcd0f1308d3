-- The call that the numbers ask for is the one that they are decoded to.
-- Assumes nothing.
use Rattle.std.proofs.Common.{ap, ◌∙◌}
use Rattle.decisions.specs.Calls.{call_of}
use Rattle.decisions.proofs.Calls.{decoded_is}
use Rattle.journal.proofs.Accounts.call.Goals as goal

pub returns : goal.returns
returns c = rw (ap (call_of c.args.text.now) c.from.ensures ∙ decoded_is c.args.text.now c.args.asked) at c.perform.ensures
