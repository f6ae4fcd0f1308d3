-- The five postings made are those of the unit, and they are copied over five places.
-- Assumes nothing.
use Rattle.std.proofs.Common.{rules, ◌≡◌, sym, ◌∙◌, List, arith}
use Rattle.std.proofs.lemmas.Slice.{put_mid-paste}
use Rattle.finite.proofs.Chains.{tabulate_from_fn}
use Rattle.state.specs.Sizes.{items}
use Rattle.postings.specs.declared.Posting.{Posting}
use Rattle.postings.specs.Plan.{posting_of, unit_postings}
use Rattle.postings.proofs.Rows.{unit_length}
use Rattle.postings.proofs.post_unit.Goals as goal

pub returns : goal.returns
unfolding unit_postings
returns c =
    let a = c.args in
    let u : List Posting = unit_postings a.hour a.k a.old.now a.new.now in
    let made : c.from_fn-postings.result ≡ u =
    tabulate_from_fn (posting_of a.hour a.k a.old.now a.new.now) _ _ c.from_fn-postings.ensures.items (λ i y q l k. search rules) in
    put_mid-paste _ _ _ _ u items (c.copy_from_slice.ensures.after ∙ made) (omega arith) (sym (unit_length a.hour a.k a.old.now a.new.now))
