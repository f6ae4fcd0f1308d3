-- The offers are asked one by one.
-- Assumes nothing.
use Rattle.std.proofs.Common.{rules}
use Rattle.finite.proofs.Chains.{every_slice}
use Rattle.offer.specs.Offer.{offer_holds, past_offer}
use Rattle.sheet.proofs.offers_hold.Goals as goal

pub returns : goal.returns
returns c = every_slice offer_holds c.args.u.now.offers 24 past_offer _ (search rules) (search rules) c.all.ensures.ran (λ x y q k. search rules)
