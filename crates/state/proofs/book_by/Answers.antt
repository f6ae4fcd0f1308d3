-- Each list is made by its own function.
-- Assumes nothing.
use Rattle.state.proofs.book_by.Goals as goal

pub returns : goal.returns
returns c =
    λ i.
    record {
      commitment = c.commitments_of.ensures i;
      mark = c.args.mark.now;
      energy = c.energies_of.ensures i;
      amounts = c.amounts_of.ensures i;
    }
