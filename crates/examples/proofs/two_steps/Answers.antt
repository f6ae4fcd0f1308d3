-- The two steps keep their ranges and their order, as is asked of the numbers given.
-- Assumes nothing.
use Rattle.examples.proofs.Ranges.{two_steps_hold}
use Rattle.examples.proofs.two_steps.Goals as goal

pub returns : goal.returns
returns c =
    let a = c.args in
    rw c.no_offer-offer.ensures
    (two_steps_hold a.quantity a.price a.next_quantity a.next_price _ _ c.step.ensures c.step-2.ensures c.requires.0 c.requires.1 c.requires.2 c.requires.3 c.requires.4)
