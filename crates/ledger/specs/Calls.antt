-- The calls on the book and the journal (01, Book and journal): the rows (refusal, condition) of each call in the order in which they are
-- checked, and what an accepted call changes and posts.
use Rattle.std.specs.Prelude.{Result}
use Rattle.lines.specs.declared.TextRefusal.{TextRefusal}
use Rattle.std.specs.Prelude.{ℕ, ◌+◌, ◌-◌, ◌*◌, min, Bool, true, false, cond, not, ◌&&◌, ◌||◌, List, [], ◌∷◌, ◌++◌, ltb, eqb, length, take as first_of, Ok, Err}
use Rattle.std.proofs.Math.Seq.{paste}
use Rattle.energy.specs.declared.GrossKwh.{GrossKwh}
use Rattle.units.specs.Units.{is_member, unit_count}
use Rattle.sheet.specs.declared.Sheet.{Sheet}
use Rattle.lines.specs.Refusals.{no_start}
use Rattle.sheet.specs.Ranges.{sheet_holds, monthly_of}
use Rattle.record.specs.declared.Record.{Record}
use Rattle.record.specs.Empty.{no_record}
use Rattle.record_text.specs.Hour.{read_record}
use Rattle.record.specs.Spans.{minutes_hold}
use Rattle.settlement.specs.declared.HourResult.{HourResult}
use Rattle.settlement.specs.Hour.{hour_result}
use Rattle.readings.specs.Readings.{readings_hold}
use Rattle.settlement.specs.Refusals.{proportions_hold}
use Rattle.state.specs.declared.Book.{Book}
use Rattle.state.specs.Book.{commitment_at, mark_at, hour_commitments, hour_amounts, with_commitment, with_hour, no_result, empty_book, open_mark, settled_mark}
use Rattle.state.specs.Ranges.{limit_at, book_holds}
use Rattle.postings.specs.declared.Plan.{Plan}
use Rattle.postings.specs.declared.Posting.{Posting}
use Rattle.postings.specs.Journal.{count_holds, posted_hold}
use Rattle.postings.specs.Plan.{plan_of, padded}
use Rattle.ledger.specs.declared.Refusal.{Refusal}
use Rattle.ledger.specs.declared.Refusal.TheVariants.{Text, SheetRange, HourRange, UnitUnknown, BookRange, HourSettled, NoAmount, OverOffer, HeldLess, SameUnit, Minutes, Readings, Proportions, HourStands, HourOpen, NoPlaces}
use Rattle.ledger.specs.Answers.{Verdict, Answer}
use Rattle.ledger.specs.declared.Effect.TheVariants.{Committed, Posted}
use Rattle.ledger.specs.declared.Outcome.{Outcome}
use Rattle.ledger.specs.Ledger.{Call, take, release, move, settle, restate, void, Reply}
use Rattle.ledger.specs.Numbers.{reply_of}

-- a call with what was read of its text: kinds 1 to 6 are take, release, move, settle, restate and void; settle and restate carry what was read
-- of the record's text from `start` on
pub record Request : Type 0 where
  pub kind : ℕ
  pub hour : ℕ
  pub unit : ℕ
  pub to : ℕ
  pub kwh : ℕ
  pub start : ℕ
  pub answer : Result ℕ TextRefusal
  pub read : Record

-- what a call comes to: n postings of the plan, stored from place `at` on; the answer and the text place; the count and the book after it
pub record Decision : Type 0 where
  pub plan : Plan
  pub at : ℕ
  pub n : ℕ
  pub answer : Answer
  pub place : ℕ
  pub count : ℕ
  pub book : Book

-- a row of the table of refusals
pub record Row : Type 0 where
  pub refusal : Refusal
  pub holds : Bool

abbrev pub row : Refusal → Bool → Row
row r b = record { refusal = r; holds = b }

-- "Calls check in the table's order": the first condition that holds is the refusal
unfoldable pub verdict : List Row → Verdict
verdict [] = Ok tt
verdict (r ∷ rs) = cond r.holds (Err r.refusal) (verdict rs)

-- no row's condition holds
unfoldable pub none_hold : List Row → Bool
none_hold [] = true
none_hold (r ∷ rs) = not r.holds && none_hold rs

-- a call is accepted where its answer is no refusal
abbrev pub is_accepted : Answer → Bool
is_accepted (Ok Committed) = true
is_accepted (Ok (Posted n)) = true
is_accepted (Err r) = false

abbrev pub bad_hour : ℕ → Bool
bad_hour hour = ltb hour 1 || ltb 24 hour

abbrev pub unknown_units : (units from to : ℕ) → Bool
unknown_units units from to = not (is_member units from) || not (is_member units to)

-- hours and places of the book are counted from 0
abbrev pub held_kwh : Book → ℕ → ℕ → ℕ
held_kwh b hour unit = (commitment_at b (hour - 1) (unit - 1)).0

abbrev pub last_kwh : Sheet → ℕ → ℕ → ℕ
last_kwh s hour unit = (limit_at s (hour - 1) (unit - 1)).0

abbrev pub is_settled : Book → ℕ → Bool
is_settled b hour = eqb (mark_at b (hour - 1)) settled_mark

-- 9 and 12, at every call; `posted` says that each posting below the count is in its range
abbrev pub always_rows : Sheet → Book → (count places : ℕ) → (posted : Bool) → List Row
always_rows s b count places posted =
    row SheetRange (not (sheet_holds s)) ∷ row BookRange (not (book_holds s b && (count_holds count places && posted))) ∷ []

-- take: 10 11 20 21 22, by whether the hour is settled, the unit's commitment and its last offer quantity
abbrev pub take_tests : (units hour unit kwh : ℕ) → (settled : Bool) → (held limit : ℕ) → List Row
take_tests units hour unit kwh settled held limit =
    row HourRange (bad_hour hour)
    ∷ row UnitUnknown (not (is_member units unit))
    ∷ row HourSettled settled
    ∷ row NoAmount (eqb kwh 0)
    ∷ row OverOffer (ltb limit (held + kwh))
    ∷ []

abbrev pub take_rows : Sheet → Book → (hour unit kwh : ℕ) → List Row
take_rows s b hour unit kwh = take_tests s.units hour unit kwh (is_settled b hour) (held_kwh b hour unit) (last_kwh s hour unit)

-- release: 10 11 20 21 23
abbrev pub release_tests : (units hour unit kwh : ℕ) → (settled : Bool) → (held : ℕ) → List Row
release_tests units hour unit kwh settled held =
    row HourRange (bad_hour hour)
    ∷ row UnitUnknown (not (is_member units unit))
    ∷ row HourSettled settled
    ∷ row NoAmount (eqb kwh 0)
    ∷ row HeldLess (ltb held kwh)
    ∷ []

abbrev pub release_rows : Sheet → Book → (hour unit kwh : ℕ) → List Row
release_rows s b hour unit kwh = release_tests s.units hour unit kwh (is_settled b hour) (held_kwh b hour unit)

-- move: 10 11 24 20 21 23 22, by the commitments of the unit that gives and of the one that gets, and the latter's last offer quantity
abbrev pub move_tests : (units hour from to kwh : ℕ) → (settled : Bool) → (source held last : ℕ) → List Row
move_tests units hour from to kwh settled source held last =
    row HourRange (bad_hour hour)
    ∷ row UnitUnknown (unknown_units units from to)
    ∷ row SameUnit (eqb from to)
    ∷ row HourSettled settled
    ∷ row NoAmount (eqb kwh 0)
    ∷ row HeldLess (ltb source kwh)
    ∷ row OverOffer (ltb last (held + kwh))
    ∷ []

abbrev pub move_rows : Sheet → Book → (hour from to kwh : ℕ) → List Row
move_rows s b hour from to kwh =
    move_tests s.units hour from to kwh (is_settled b hour) (held_kwh b hour from) (held_kwh b hour to) (last_kwh s hour to)

-- 42: "fewer free places, up to 100,000 in all, than five a unit"
abbrev pub short_of : (units count places : ℕ) → Bool
short_of units count places = ltb (min places 100000 - count) (5 * unit_count units)

-- 1 to 4, by what was read
abbrev pub text_rows : Result ℕ TextRefusal → List Row
text_rows (Ok place) = []
text_rows (Err r) = row (Text r) true ∷ []

-- settle: text 31 40 32 33 42; restate has 41 in the place of 40. By the plant's mask and whether 33 does not hold
abbrev pub record_tests : (units : ℕ) → (proportioned : Bool) → Record → Row → (count places : ℕ) → List Row
record_tests units proportioned r standing count places =
    row Minutes (not (minutes_hold r units))
    ∷ standing
    ∷ row Readings (not (readings_hold r units))
    ∷ row Proportions (not proportioned)
    ∷ row NoPlaces (short_of units count places)
    ∷ []

abbrev pub record_rows : Sheet → Record → Row → (count places : ℕ) → List Row
record_rows s r standing count places = record_tests s.units (proportions_hold s r) r standing count places

-- void: 10 41 42, by whether the hour is settled
abbrev pub void_tests : (units hour : ℕ) → (settled : Bool) → (count places : ℕ) → List Row
void_tests units hour settled count places =
    row HourRange (bad_hour hour) ∷ row HourOpen (not settled) ∷ row NoPlaces (short_of units count places) ∷ []

abbrev pub void_rows : Sheet → Book → (hour count places : ℕ) → List Row
void_rows s b hour count places = void_tests s.units hour (is_settled b hour) count places

-- the rows of a request, by its kind
unfoldable pub request_rows : Sheet → Book → Request → (count places : ℕ) → List Row
request_rows s b q count places =
    cond (eqb q.kind 1) (take_rows s b q.hour q.unit q.kwh)
    (cond (eqb q.kind 2) (release_rows s b q.hour q.unit q.kwh)
    (cond (eqb q.kind 3) (move_rows s b q.hour q.unit q.to q.kwh)
    (cond (eqb q.kind 4)
    (text_rows q.answer ++ record_rows s q.read (row HourStands (is_settled b q.read.hour)) count places)
    (cond (eqb q.kind 5)
    (text_rows q.answer ++ record_rows s q.read (row HourOpen (not (is_settled b q.read.hour))) count places)
    (void_rows s b q.hour count places)))))

abbrev pub rows_of : Sheet → Book → Request → (count places : ℕ) → Bool → List Row
rows_of s b q count places posted = always_rows s b count places posted ++ request_rows s b q count places

-- a plan without postings
abbrev pub no_plan : Plan
no_plan = record { row = padded [] }

-- a refusal "returns its number (..); book, journal, count and text place are unchanged"
abbrev pub refused_with : Book → (count start : ℕ) → Refusal → Decision
refused_with b count start r = record { plan = no_plan; at = 0; n = 0; answer = Err r; place = start; count = count; book = b }

-- "Otherwise take adds its kWh, release subtracts them, move does both": the book changes, nothing is posted
abbrev pub changed_to : Book → (count : ℕ) → Decision
changed_to b count = record { plan = no_plan; at = 0; n = 0; answer = Ok Committed; place = 0; count = count; book = b }

abbrev pub with_held : Book → (hour unit kwh : ℕ) → Book
with_held b hour unit kwh = with_commitment b (hour - 1) (unit - 1) (record { 0 = kwh })

-- "settle, restate and void append five per unit (..) and report how many": each amount's new value less its old one
abbrev pub posted_with : Sheet → Book → (hour mark : ℕ) → HourResult → (place count : ℕ) → Decision
posted_with s b hour mark result place count =
    let n = 5 * unit_count s.units in
    record {
      plan = plan_of hour s.units (hour_amounts b (hour - 1)) result.amounts;
      at = count;
      n = n;
      answer = Ok (Posted n);
      place = place;
      count = count + n;
      book = with_hour b (hour - 1) mark s.units result;
    }

-- the text place after a record that was read
abbrev pub place_after : ℕ → Result ℕ TextRefusal → ℕ
place_after start (Ok place) = place
place_after start (Err r) = start

-- an accepted settle or restate: the hour's energies and amounts are those of its record
abbrev pub recorded_at : Sheet → Book → Record → (place count : ℕ) → Decision
recorded_at s b r place count =
    posted_with s b r.hour settled_mark (hour_result s r (hour_commitments b (r.hour - 1))) place count

abbrev pub recorded_in : Sheet → Book → Request → (count : ℕ) → Decision
recorded_in s b q count = recorded_at s b q.read (place_after q.start q.answer) count

-- an accepted void: "energies and amounts are (..) 0 without a record"
abbrev pub voided_at : Sheet → Book → (hour count : ℕ) → Decision
voided_at s b hour count = posted_with s b hour open_mark no_result 0 count

-- an accepted call, by its kind
unfoldable pub accepted_in : Sheet → Book → Request → (count : ℕ) → Decision
accepted_in s b q count =
    cond (eqb q.kind 1) (changed_to (with_held b q.hour q.unit (held_kwh b q.hour q.unit + q.kwh)) count)
    (cond (eqb q.kind 2) (changed_to (with_held b q.hour q.unit (held_kwh b q.hour q.unit - q.kwh)) count)
    (cond (eqb q.kind 3)
    (changed_to
    (with_held (with_held b q.hour q.unit (held_kwh b q.hour q.unit - q.kwh)) q.hour q.to (held_kwh b q.hour q.to + q.kwh))
    count)
    (cond (eqb q.kind 4) (recorded_in s b q count)
    (cond (eqb q.kind 5) (recorded_in s b q count) (voided_at s b q.hour count)))))

abbrev pub by_verdict : Verdict → Decision → (Refusal → Decision) → Decision
by_verdict (Ok tt) d f = d
by_verdict (Err r) d f = f r

-- what a request comes to, with `count` postings in a list of so many places
unfoldable pub decided : Sheet → Book → Request → (count places : ℕ) → Bool → Decision
decided s b q count places posted =
    by_verdict (verdict (rows_of s b q count places posted)) (accepted_in s b q count) (refused_with b count q.start)

-- the same part by part, as the code goes: 12, and the rows of a kind
abbrev pub book_fits : Sheet → Book → (count places : ℕ) → Bool → Bool
book_fits s b count places posted = book_holds s b && (count_holds count places && posted)

abbrev pub request_decided : Sheet → Book → Request → (count places : ℕ) → Decision
request_decided s b q count places = by_verdict (verdict (request_rows s b q count places)) (accepted_in s b q count) (refused_with b count q.start)

-- what is left of a decision once its postings are appended
abbrev pub outcome_of : Decision → Outcome
outcome_of d = record { answer = d.answer; place = d.place; count = d.count; book = d.book }

-- the book, the count and the list of places between two calls
pub record State : Type 0 where
  pub book : Book
  pub count : ℕ
  pub journal : List Posting

pub record Moved : Type 0 where
  pub reply : Reply
  pub state : State

-- what a request comes to on a book and a journal: 12 looks at the postings up to the count
abbrev pub decided_on : Sheet → State → Request → Decision
decided_on s st q = decided s st.book q st.count (length st.journal) (posted_hold (first_of st.count st.journal))

-- 12 does not hold of a book, a count and a list of postings
abbrev pub fits_in : Sheet → State → Bool
fits_in s st = book_fits s st.book st.count (length st.journal) (posted_hold (first_of st.count st.journal))

-- the postings go to the places from the count on, and every other place keeps its contents
abbrev pub journal_after : List Posting → Decision → List Posting
journal_after journal d = paste journal d.at d.plan.row d.n

-- a request carried out
unfoldable pub carried_out : Sheet → State → Request → Moved
carried_out s st q =
    let d = decided_on s st q in
    record {
      reply = reply_of d.answer d.place;
      state = record { book = d.book; count = d.count; journal = journal_after st.journal d };
    }

-- the requests of the calls; one without a text has a reading that is refused
abbrev pub unread : Result ℕ TextRefusal
unread = Err no_start

abbrev pub plain_request : (kind hour unit to kwh : ℕ) → Request
plain_request kind hour unit to kwh =
    record { kind = kind; hour = hour; unit = unit; to = to; kwh = kwh; start = 0; answer = unread; read = no_record }

abbrev pub read_request : (units : ℕ) → (monthly : List GrossKwh) → (kind : ℕ) → List ℕ → (start : ℕ) → Request
read_request units monthly kind text start =
    let r = read_record text start units monthly in
    record { kind = kind; hour = 0; unit = 0; to = 0; kwh = 0; start = start; answer = r.answer; read = r.read }

abbrev pub record_request : Sheet → (kind : ℕ) → List ℕ → (start : ℕ) → Request
record_request s kind text start = read_request s.units (monthly_of s) kind text start

abbrev pub request_of : Sheet → Call → Request
request_of s (take hour unit kwh) = plain_request 1 hour unit 0 kwh
request_of s (release hour unit kwh) = plain_request 2 hour unit 0 kwh
request_of s (move hour from to kwh) = plain_request 3 hour from to kwh
request_of s (settle text start) = record_request s 4 text start
request_of s (restate text start) = record_request s 5 text start
request_of s (void hour) = plain_request 6 hour 0 0 0

pub record Ran : Type 0 where
  pub replies : List Reply
  pub state : State

-- a list of calls, one after the other: "each later one [gets] what the call before returned or left"
unfoldable pub ran_from : Sheet → State → List Call → Ran
ran_from s st [] = record { replies = []; state = st }
ran_from s st (c ∷ cs) =
    let m = carried_out s st (request_of s c) in
    let r = ran_from s m.state cs in
    record { replies = m.reply ∷ r.replies; state = r.state }

-- "The first gets the empty book", and the list of places has "count 0 at first"
abbrev pub begun : List Posting → State
begun journal = record { book = empty_book; count = 0; journal = journal }
