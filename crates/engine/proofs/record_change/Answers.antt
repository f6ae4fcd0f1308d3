-- A record that was read has an hour of the day, and is due with what the sheet and the book have of it; a text that is refused refuses the call.
-- Assumes nothing.
use Rattle.std.proofs.Common.{◌≡◌, ap, ◌∙◌, subst, arith, List, Result, Ok}
use denote.Ref.{Bor}
use Rattle.energy.specs.declared.HubKwh.{HubKwh}
use Rattle.lines.specs.declared.TextRefusal.{TextRefusal}
use Rattle.record_text.specs.declared.RecordRead.{RecordRead}
use Rattle.terms.specs.declared.HourSheet.{HourSheet}
use Rattle.settlement.specs.Ranges.{HourDue}
use Rattle.std.proofs.lemmas.Result.{err_from_is_err_and}
use Rattle.record_text.specs.Hour.{RecordTold, read_record}
use Rattle.ledger.specs.Ledger.{given}
use Rattle.engine.proofs.HourReady.{refused_text, record_due, record_hour}
use Rattle.engine.proofs.record_change.Goals.{In_ok-r}
use Rattle.engine.proofs.record_change.Goals as goal

-- the record is the one that the call is given
read : (c : In_ok-r) → ◌≡◌ {A = RecordTold} (record { answer = Ok c.in_ok-r.r.place; read = c.in_ok-r.r.read }) (given c.args.sheet.now c.args.text.now c.args.start)
read c = c.in_ok-r.ensures ∙ ap (read_record c.args.text.now c.args.start c.args.sheet.now.units) c.monthly_of-monthly.ensures

pub returns-in_err-r : goal.returns-in_err-r
returns-in_err-r c =
    let a = c.args in
    let p = err_from_is_err_and c.from_residual.result c.from_residual.ensures.1 in
    rw (p.1, p.2)
    (refused_text a.sheet.now a.book.now a.count a.places c.requires a.text.now a.start a.again _
    (c.in_err-r.ensures ∙ ap (read_record a.text.now a.start a.sheet.now.units) c.monthly_of-monthly.ensures))

pub overflow_sub-h : goal.overflow_sub-h
overflow_sub-h c = let a = c.args in (record_hour a.sheet.now a.book.now a.count a.places c.requires a.text.now a.start _ (read c)).0

pub commitments-held-requires : goal.commitments-held-requires
commitments-held-requires c = let a = c.args in omega (arith, record_hour a.sheet.now a.book.now a.count a.places c.requires a.text.now a.start _ (read (goal.at.commitments-held-requires c).In_ok-r))

pub is_settled-settled-requires : goal.is_settled-settled-requires
is_settled-settled-requires c = let a = c.args in omega (arith, record_hour a.sheet.now a.book.now a.count a.places c.requires a.text.now a.start _ (read (goal.at.is_settled-settled-requires c).In_ok-r))

pub hour_sheet-day-requires : goal.hour_sheet-day-requires
hour_sheet-day-requires c = let a = c.args in record_hour a.sheet.now a.book.now a.count a.places c.requires a.text.now a.start _ (read (goal.at.hour_sheet-day-requires c).In_ok-r)

-- the record that is lent is the one that was read
lent_due : (day : HourSheet) (held : List HubKwh) (x y : Bor RecordRead) → ◌≡◌ {A = Result (Bor RecordRead) TextRefusal} (Ok x) (Ok y)
    → HourDue day x.now.read held → HourDue day y.now.read held
lent_due day held x y e due = let same : x ≡ y = cc in subst (λ (z : Bor RecordRead). HourDue day z.now.read held) same due

pub decide_record-requires : goal.decide_record-requires
decide_record-requires c =
    let a = c.args in
    λ y e. lent_due _ _ _ y e
    (record_due a.sheet.now a.book.now a.count a.places c.requires a.text.now a.start _ _ _ (read (goal.at.decide_record-requires c).In_ok-r) c.commitments-held.ensures c.hour_sheet-day.ensures)
