-- Four numbers copied to four places, which are within the slice where k is below a quarter of its length.
-- Assumes nothing.
use Rattle.std.proofs.Common.{sym, ◌∙◌, [], ◌∷◌, arith, refl}
use Rattle.std.proofs.lemmas.Slice.{put_mid-paste}
use borrow.Author.Tests.{lt-ltb, le-ltb}
use Rattle.formulas.proofs.Amounts.{back}
use Rattle.exports.specs.Exports.{signed_of, posting_stored}
use Rattle.exports.proofs.put_posting.Goals as goal

pub returns-then-k-out : goal.returns-then-k-out
unfolding posting_stored
returns-then-k-out c =
    let a = c.args in
    let hour = back _ c.signed.type_inv ∙ c.signed.ensures in
    let unit = back _ c.signed-then-k-out.type_inv ∙ c.signed-then-k-out.ensures in
    let item = back _ c.signed-then-k-out-2.type_inv ∙ c.signed-then-k-out-2.ensures in
    let amount = back a.x.amount c.struct_told-1.given.1.1.1.0.1 in
    put_mid-paste _ _ _ _ (signed_of a.x.hour ∷ signed_of a.x.unit ∷ signed_of a.x.item ∷ a.x.amount ∷ []) 4 (c.copy_from_slice.ensures.after ∙ (λ i. hour i ∷ unit i ∷ item i ∷ amount i ∷ [])) (omega arith) refl
    ∙ sym (simp (lt-ltb _ _ c.if-k-out.true))

pub returns-else-k-out : goal.returns-else-k-out
unfolding posting_stored
returns-else-k-out c = sym (simp (le-ltb _ _ c.if-k-out.false))
