-- The part of the text from its first byte to its last is the text.
-- Assumes nothing.
use Rattle.journal.proofs.WholeText.{whole_text}
use Rattle.journal.proofs.Accounts.record.Goals as goal

pub returns : goal.returns
returns c = rw (whole_text c.args.text.now) at c.perform.ensures
