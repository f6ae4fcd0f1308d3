-- The four steps keep their ranges and their order: computed.
-- Assumes nothing.
use mathlib.Core.Path.{refl}
use Rattle.finite.specs.Finite.{every}
use Rattle.offer.specs.Offer.{steps_allowed, in_range, in_order, offer_holds}
use Rattle.examples.proofs.four_steps.Goals as goal

pub returns : goal.returns
unfolding offer_holds steps_allowed every in_range in_order
returns c = rw (c.no_offer-offer.ensures, c.step.ensures, c.step-2.ensures, c.step-3.ensures, c.step-4.ensures) refl
