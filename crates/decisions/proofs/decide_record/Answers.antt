-- A record that was read is due, so that what the readings' test requires of it follows; a text that is refused
-- refuses the call.
-- Assumes nothing.
use Rattle.std.proofs.Common.{ap, ◌∙◌}
use Rattle.std.proofs.lemmas.Result.{err_from_is_err_and}
use Rattle.terms.specs.declared.HourSheet.{HourSheet}
use Rattle.settlement.specs.Ranges.{HourDue}
use Rattle.settlement.proofs.Taken.{hour_in_range}
use Rattle.terms.proofs.Taken.{hour_units}
use Rattle.ledger.specs.Calls.{verdict}
use Rattle.decisions.specs.Hours.{record_decided}
use Rattle.decisions.proofs.decide_record.Goals.{In_ok-r}
use Rattle.decisions.proofs.decide_record.Goals as goal

-- the record that was read is due
read_due : (c : In_ok-r) → HourDue c.args.day.now c.in_ok-r.r.now.read c.args.held.now
read_due c = c.requires c.in_ok-r.r c.in_ok-r.was

pub returns-in_err-r : goal.returns-in_err-r
unfolding record_decided verdict
returns-in_err-r c =
    let p = err_from_is_err_and c.from_residual.result c.from_residual.ensures.1 in
    rw (p.1, p.2, c.in_err-r.was)

pub readings_hold-requires : goal.readings_hold-requires
readings_hold-requires c =
    let due = read_due (goal.at.readings_hold-requires c).In_ok-r in
    rw (ap (λ (x : HourSheet). x.units) due.is ∙ hour_units due.sheet c.in_ok-r.r.now.read.hour) due.ready.read.in_range

-- the hour that is due keeps its ranges
pub invariant_of-due : goal.invariant_of-due
invariant_of-due c = record { in_range = hour_in_range c.args.day.now c.in_ok-r.r.now.read c.args.held.now (read_due (goal.at.invariant_of-due c).In_ok-r) }

pub proportions_hold-requires : goal.proportions_hold-requires
proportions_hold-requires c =
    let due = read_due (goal.at.proportions_hold-requires c).In_ok-r in
    record { sheet = due.sheet; is = due.is; read = due.ready.read }
