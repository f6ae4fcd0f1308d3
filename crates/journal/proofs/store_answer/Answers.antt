-- Four numbers copied to four places are set one after the other.
use Rattle.std.proofs.Common.{sym, ◌∙◌, [], ◌∷◌, arith, refl}
use Rattle.std.proofs.lemmas.Slice.{put_mid-paste}
use borrow.Author.Tests.{lt-ltb}
use Rattle.ledger.specs.Numbers.{number_of, line_of, posted_of}
use Rattle.journal.proofs.Replies.{four_pasted}
use Rattle.journal.proofs.store_answer.Goals as goal

pub returns-then-i-answers : goal.returns-then-i-answers
returns-then-i-answers c =
    let a = c.args in
    let d = a.done in
    put_mid-paste _ _ _ _ (number_of d.answer ∷ line_of d.answer ∷ posted_of d.answer ∷ d.place ∷ []) 4 (c.copy_from_slice.ensures.after ∙ c.reply_of.ensures) (omega arith) refl
    ∙ (four_pasted a.answers.now _ _ _ _ d.place (omega (arith, c.if-i-answers.true)) ∙ sym (simp (lt-ltb _ _ c.if-i-answers.true)))
