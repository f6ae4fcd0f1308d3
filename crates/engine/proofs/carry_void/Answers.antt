-- What a void is decided to be is stored: that this is what its rows and its effect say is a law (proofs/HourDecided.antt).
-- Assumes nothing.
use Rattle.std.proofs.Common.{ap, ◌∙◌, length}
use Rattle.engine.specs.Journal.{done_by}
use Rattle.engine.specs.Carried.{decision_of}
use Rattle.engine.proofs.HourReady.{void_ready}
use Rattle.engine.proofs.HourDecided.{void_on}
use Rattle.engine.proofs.carry_void.Goals as goal

pub store_hour-requires : goal.store_hour-requires
store_hour-requires c =
    let a = c.args in
    void_ready a.sheet.now a.book.now a.count _ c.requires _ _ _ c.decide_void-decided.ensures

pub returns : goal.returns
returns c =
    let a = c.args in
    c.store_hour.ensures
    ∙ ap (done_by a.list.now) (ap (decision_of a.sheet.now.units a.book.now a.count 0)
    (rw (c.is_settled-settled.ensures) at c.decide_void-decided.ensures)
    ∙ void_on a.sheet.now a.book.now a.count (length a.list.now) _ _ c.hour_index.ensures.value)
