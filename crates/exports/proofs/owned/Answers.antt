-- The part lent to the list of calls is that many empty places, and the part listed after them is what came back.
-- Assumes nothing.
use mathlib.Core.Path.{ap, ◌∙◌}
use mathlib.Core.List.{List}
use lib.ListN.{length, replicate}
use Rattle.state.specs.Book.{empty_book}
use Rattle.postings.specs.declared.Posting.{Posting}
use Rattle.journal.specs.Run.{start_on, ran_all, turns_of}
use Rattle.exports.specs.Exports.{listed_to}
use Rattle.exports.proofs.Places.{owned_is}
use Rattle.exports.proofs.OwnList.{front, front_length, again}
use Rattle.exports.proofs.owned.Goals as goal

pub returns : goal.returns
returns g c =
    let a = c.args in
    let none = c.no_posting-list.result in
    let lent = front a.places g.row.ROOM none c.requires.places_in_room ∙ ap (replicate a.places) c.no_posting-list.ensures in
    let long = front_length a.places g.row.ROOM none c.requires.places_in_room (length c.run-ran.new.list) c.run-ran.auto.list in
    owned_is a.sheet.now a.places a.calls.now a.text.now a.answers.now a.out.now c.run-ran.result c.run-ran.new.list c.run-ran.new.answers c.listed.new.out
    (c.run-ran.ensures.ran
    ∙ ap (λ (l : List Posting). ran_all a.sheet.now a.calls.now a.text.now (start_on l a.answers.now 0 empty_book) (turns_of (length a.calls.now) (length a.answers.now))) lent)
    (c.listed.ensures ∙ ap (λ (l : List Posting). listed_to a.out.now l (length l)) (again a.places c.run-ran.new.list _ long))
