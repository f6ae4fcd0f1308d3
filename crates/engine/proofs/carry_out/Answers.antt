-- Each kind of call is carried out by its own function; that a commitment's change is what its rows and its effect say is a law (proofs/Changes.antt).
-- Assumes nothing.
use Rattle.engine.proofs.Changes.{commitment_carried}
use Rattle.engine.proofs.carry_out.Goals as goal

pub returns-in-Commitment : goal.returns-in-Commitment
returns-in-Commitment c =
    let a = c.args in
    rw c.in-Commitment.is
    (commitment_carried a.sheet.now a.book.now _ a.count a.list.now _ c.requires.sized.commitment c.requires.fits _ _ c.from-change.ensures c.change.ensures)
