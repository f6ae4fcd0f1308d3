-- Where the sheet's text is refused nothing else is written; otherwise the answers are, the book in numbers and the journal list.
-- Assumes nothing.
use mathlib.Core.Path.{refl}
use Rattle.exports.proofs.Called.{called_refused, called_read}
use Rattle.exports.proofs.gozalvek_calls.Goals as goal

pub returns-in-Err : goal.returns-in-Err
returns-in-Err c =
    let a = c.args in
    let t = rw c.in-Err.is at c.read_sheet.ensures in
    called_refused a.sheet.now a.places a.calls.now a.text.now a.answers.now a.held.now a.amounts.now a.postings.now _ t _ _ _ refl c.number.ensures refl

pub returns-in-Ok : goal.returns-in-Ok
returns-in-Ok c =
    let a = c.args in
    let t = rw c.in-Ok.is at c.read_sheet.ensures in
    called_read a.sheet.now a.places a.calls.now a.text.now a.answers.now a.held.now a.amounts.now a.postings.now _ t _ _ _ _ _ refl c.length_of-n.ensures c.carried_out-ran.ensures c.put_held.ensures c.put_amounts.ensures
