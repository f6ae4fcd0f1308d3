-- What a settle or a restate is decided to be is stored: that this is what its rows and its effect say is a law (proofs/HourDecided.antt).
-- Assumes nothing.
use Rattle.std.proofs.Common.{ap, ◌∙◌, length}
use Rattle.engine.specs.Journal.{done_by}
use Rattle.engine.specs.Carried.{decision_of}
use Rattle.engine.proofs.HourReady.{record_ready}
use Rattle.engine.proofs.HourDecided.{record_on}
use Rattle.engine.proofs.carry_record.Goals as goal

pub store_hour-requires : goal.store_hour-requires
store_hour-requires c =
    let a = c.args in
    record_ready a.sheet.now a.book.now a.count _ c.requires _ _ _ _ c.record_change-decided.ensures

pub returns : goal.returns
returns c =
    let a = c.args in
    c.store_hour.ensures
    ∙ ap (done_by a.list.now) (ap (decision_of a.sheet.now.units a.book.now a.count _) (rw c.part_of-part.ensures at c.record_change-decided.ensures)
    ∙ record_on a.sheet.now a.book.now a.count (length a.list.now) _ _ _)
