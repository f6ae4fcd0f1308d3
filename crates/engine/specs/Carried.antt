-- A call carried out on the book and the list of postings, where neither 9 nor 12 holds.
use Rattle.std.specs.Prelude.{◌≡◌, true, cond, Bool, List, ℕ, ◌+◌, ◌-◌, ◌≤◌, ◌<◌, length, Result, Ok, Err}
use Rattle.sheet.specs.declared.Sheet.{Sheet}
use Rattle.sheet.specs.Ranges.{sheet_holds}
use Rattle.terms.specs.Terms.{hour_sheet}
use Rattle.state.specs.declared.Book.{Book}
use Rattle.state.specs.Sizes.{hours}
use Rattle.state.specs.Book.{Sized, hour_commitments, hour_amounts, with_hour, open_mark, settled_mark}
use Rattle.state.specs.Ranges.{book_holds, AmountsWithin}
use Rattle.postings.specs.declared.Posting.{Posting}
use Rattle.postings.specs.Journal.{most_postings, count_holds}
use Rattle.postings.specs.Plan.{entry_size, plan_of}
use Rattle.ledger.specs.declared.Refusal.{Refusal}
use Rattle.ledger.specs.declared.Effect.TheVariants.{Posted}
use Rattle.ledger.specs.Ledger.{Call, given}
use Rattle.ledger.specs.Calls.{is_settled, refused_with, request_of, request_decided, Decision}
use Rattle.decisions.specs.declared.HourChange.{HourChange}
use Rattle.decisions.specs.Hours.{record_decided}
use Rattle.engine.specs.declared.Done.{Done}
use Rattle.engine.specs.Journal.{Performed, done_by}

-- what a call answers, with the book and the list after it
abbrev pub left : Done → Book → List Posting → Performed
left r b l = record { outcome = record { answer = r.answer; place = r.place; count = r.count; book = b }; list = l }

-- 9 and 12 being known not to hold, a call is decided by its own rows
abbrev pub carried : Sheet → Book → (count : ℕ) → List Posting → Call → Performed
carried s b count l c = done_by l (request_decided s b (request_of s c) count (length l))

-- neither 9 nor, of the book and the count, 12 holds
pub record Ready (s : Sheet) (b : Book) (count places : ℕ) : Type 0 where
  pub sized : Sized b
  pub holds : sheet_holds s ≡ true
  pub fits : book_holds s b ≡ true
  pub counted : count_holds count places ≡ true

-- an accepted settle, restate or void: "settle, restate and void append five per unit (..) and report how many"; its hour is stored
abbrev pub accepted_on : (units : ℕ) → Book → (count : ℕ) → HourChange → Decision
accepted_on units b count d =
    let n = entry_size units in
    record {
      plan = plan_of d.hour units (hour_amounts b (d.hour - 1)) d.result.amounts;
      at = count;
      n = n;
      answer = Ok (Posted n);
      place = d.place;
      count = count + n;
      book = with_hour b (d.hour - 1) (cond d.settled settled_mark open_mark) units d.result;
    }

-- a refused one changes nothing
abbrev pub decision_of : (units : ℕ) → Book → (count start : ℕ) → Result HourChange Refusal → Decision
decision_of units b count start (Ok d) = accepted_on units b count d
decision_of units b count start (Err r) = refused_with b count start r

-- what storing an hour rests on: an hour of the day, amounts whose differences can be posted, as many as are counted,
-- and free places for them
pub record ChangeReady (units count places : ℕ) (d : HourChange) : Type 0 where
  pub hour_least : 1 ≤ d.hour
  pub hour_most : d.hour ≤ hours
  pub within : AmountsWithin units d.result.amounts
  pub posted : d.posted ≡ entry_size units
  pub free : count + entry_size units ≤ places

pub record StoreReady (units : ℕ) (b : Book) (count places : ℕ) (decided : Result HourChange Refusal) : Type 0 where
  pub mask : units < 256
  pub few : count ≤ most_postings
  pub old : (h : ℕ) → h < hours → AmountsWithin units (hour_amounts b h)
  pub change : (d : HourChange) → decided ≡ Ok d → ChangeReady units count places d

-- a settle, or a restate (`again`), by what is read of its text, and what the sheet and the book have of the record's hour
abbrev pub recorded : Sheet → Book → (again : Bool) → List ℕ → (start count places : ℕ) → Result HourChange Refusal
recorded s b again text start count places =
    let g = given s text start in
    let hour = g.read.hour in
    record_decided (hour_sheet s hour) (hour_commitments b (hour - 1)) again (is_settled b hour) g count places
