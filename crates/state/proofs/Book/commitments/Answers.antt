-- Each unit's, by place.
-- Assumes nothing.
use Rattle.std.proofs.Common.{rules}
use Rattle.finite.proofs.Chains.{tabulate_from_fn}
use Rattle.state.specs.Book.{commitment_at, hour_commitments}
use Rattle.state.proofs.Book.commitments.Goals as goal

pub returns : goal.returns
unfolding hour_commitments
returns c =
    let b = c.args.self.now in
    tabulate_from_fn (commitment_at b c.args.h) _ _ c.from_fn.ensures.items (λ i y q l k. search rules)
