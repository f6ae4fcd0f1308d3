-- A settle, restate or void by what the sheet and the book have of its hour: why it is refused, or its hour and text
-- place, how many postings it appends, and whether the hour is settled, its energies and amounts after it.
use Rattle.std.specs.Prelude.{ℕ, ◌*◌, Bool, true, false, cond, not, List, ◌++◌, Result, Ok, Err}
use Rattle.std.specs.Borrow.{Bor}
use Rattle.energy.specs.declared.HubKwh.{HubKwh}
use Rattle.units.specs.Units.{unit_count}
use Rattle.lines.specs.declared.TextRefusal.{TextRefusal}
use Rattle.record_text.specs.declared.RecordRead.{RecordRead}
use Rattle.record_text.specs.Hour.{RecordTold, told}
use Rattle.settlement.specs.declared.HourResult.{HourResult}
use Rattle.terms.specs.declared.HourSheet.{HourSheet}
use Rattle.settlement.specs.Ranges.{hour_by, proportions_by}
use Rattle.state.specs.Book.{no_result}
use Rattle.ledger.specs.declared.Refusal.{Refusal}
use Rattle.ledger.specs.declared.Refusal.TheVariants.{HourStands, HourOpen}
use Rattle.ledger.specs.Answers.{Verdict}
use Rattle.ledger.specs.Calls.{Row, row, verdict, text_rows, record_tests, void_tests, place_after}
use Rattle.decisions.specs.declared.HourChange.{HourChange}

-- "settle, restate and void append five per unit (..) and report how many"; the text place, and whether the hour is
-- settled, its energies and amounts after it
abbrev pub hour_changed : (units hour : ℕ) → (settled : Bool) → HourResult → (place : ℕ) → HourChange
hour_changed units hour settled result place =
    record { hour = hour; place = place; posted = 5 * unit_count units; settled = settled; result = result }

-- a refusal changes nothing
abbrev pub change_by : Verdict → HourChange → Result HourChange Refusal
change_by (Ok tt) d = Ok d
change_by (Err r) d = Err r

-- void: 10 41 42
unfoldable pub void_decided : (units hour : ℕ) → (settled : Bool) → (count places : ℕ) → Result HourChange Refusal
void_decided units hour settled count places =
    change_by (verdict (void_tests units hour settled count places)) (hour_changed units hour false no_result 0)

-- 40 of a settle, 41 of a restate
abbrev pub standing_row : (again settled : Bool) → Row
standing_row again settled = cond again (row HourOpen (not settled)) (row HourStands settled)

-- what was read of a text, the record being lent
abbrev pub told_of : Result (Bor RecordRead) TextRefusal → RecordTold
told_of (Ok r) = told (Ok r.now)
told_of (Err x) = told (Err x)

-- settle: text 31 40 32 33 42; a restate (`again`) has 41 in the place of 40
unfoldable pub record_decided : HourSheet → List HubKwh → (again settled : Bool) → RecordTold → (count places : ℕ) → Result HourChange Refusal
record_decided day held again settled read count places =
    let r = read.read in
    change_by (verdict (text_rows read.answer ++ record_tests day.units (proportions_by day r) r (standing_row again settled) count places))
    (hour_changed day.units r.hour true (hour_by day r held) (place_after 0 read.answer))
