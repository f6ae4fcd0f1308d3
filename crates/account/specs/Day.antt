-- The day's text behind its sheet, each call carried out as it comes (01, Program and marked figures).
use Rattle.std.specs.Prelude.{ℕ, zero, suc, List, [], ◌∷◌, length, replicate, Result, Ok, Err, Option, Some, None}
use Rattle.text.specs.Text.{fault_number}
use Rattle.sheet.specs.declared.Sheet.{Sheet}
use Rattle.state.specs.declared.Book.{Book}
use Rattle.state.specs.Book.{empty_book}
use Rattle.postings.specs.declared.Posting.{Posting}
use Rattle.postings.specs.Journal.{no_posting}
use Rattle.ledger.specs.Answers.{Answer}
use Rattle.ledger.specs.declared.Effect.TheVariants.{Committed, Posted}
use Rattle.ledger.specs.declared.Outcome.{Outcome}
use Rattle.ledger.specs.Numbers.{refusal_number}
use Rattle.ledger.specs.Ledger.{Call}
use Rattle.ledger.specs.Calls.{State}
use Rattle.ledger.specs.Requests.{call_for}
use Rattle.engine.specs.Journal.{Performed, performed}
use Rattle.day_calls.specs.declared.Next.TheVariants.{Take, Settle}
use Rattle.day_calls.specs.DayCalls.{next_at, Coming}
use Rattle.account.specs.declared.DayRefusal.{DayRefusal}
use Rattle.account.specs.declared.DayRefusal.TheVariants.{Line as not_a_call, Call as refused_call}
use Rattle.day_calls.specs.declared.Step.{Step}
use Rattle.account.specs.declared.Day.{Day}

-- the number of a line that is no call, or of a call's refusal
abbrev pub day_number : DayRefusal → ℕ
day_number (not_a_call f) = fault_number f
day_number (refused_call r) = refusal_number r

-- what is due: a call, or none where the text has ended; or why the day is refused
abbrev pub Pending : Type 0
Pending = Result (Option Step) DayRefusal

-- by what comes at a place; a record's call keeps the place
abbrev pub due_with : (at : ℕ) → Coming → Pending
due_with at (Ok None) = Ok None
due_with at (Err f) = Err (not_a_call f)
due_with at (Ok (Some (Take a after))) = Ok (Some (record { asked = a; after = after }))
due_with at (Ok (Some (Settle a))) = Ok (Some (record { asked = a; after = at }))

abbrev pub due_at : List ℕ → (at : ℕ) → Pending
due_at text at = due_with at (next_at text at)

abbrev pub day_with : (count : ℕ) → Book → Pending → Day
day_with count b x = record { count = count; book = b; due = x }

abbrev pub day_at : List ℕ → (at count : ℕ) → Book → Day
day_at text at count b = day_with count b (due_at text at)

-- after a call: a take is followed by the next line, a record by the place that the call answers; "the first refusal" ends the day
abbrev pub answered_by : List ℕ → (after place : ℕ) → Answer → Pending
answered_by text after place (Ok Committed) = due_at text after
answered_by text after place (Ok (Posted n)) = due_at text place
answered_by text after place (Err r) = Err (refused_call r)

unfoldable pub day_after : List ℕ → Step → Outcome → Day
day_after text x o = day_with o.count o.book (answered_by text x.after o.place o.answer)

-- the day, and the list of postings
pub record Running : Type 0 where
  pub list : List Posting
  pub day : Day

-- "each carried out as it comes"
abbrev pub performed_in : Sheet → List ℕ → Running → Step → Performed
performed_in s text r x = performed r.list r.day.count s r.day.book (call_for text x.asked)

unfoldable pub turned : Sheet → List ℕ → Running → Step → Running
turned s text r x =
    let p = performed_in s text r x in
    record { list = p.list; day = day_after text x p.outcome }

abbrev pub ran_by : Sheet → List ℕ → (further : Running → Running) → Running → Pending → Running
ran_by s text further r (Ok (Some x)) = further (turned s text r x)
ran_by s text further r (Ok None) = r
ran_by s text further r (Err e) = r

-- call after call, until the day has ended
unfoldable pub ran_to : Sheet → List ℕ → (left : ℕ) → Running → Running
ran_to s text zero r = r
ran_to s text (suc left) r = ran_by s text (ran_to s text left) r r.day.due

-- each call takes a byte of the text at least, so no more come than these: `none_left` (proofs/DayEnds.antt) says that none is due at the end
abbrev pub most_calls : List ℕ → ℕ
most_calls text = suc (length text)

abbrev pub ran_out : Sheet → List ℕ → Running → Running
ran_out s text r = ran_to s text (most_calls text) r

abbrev pub calls_by : Sheet → List ℕ → (further : Running → List Call) → Running → Pending → List Call
calls_by s text further r (Ok (Some x)) = call_for text x.asked ∷ further (turned s text r x)
calls_by s text further r (Ok None) = []
calls_by s text further r (Err e) = []

-- the calls carried out, in their order
unfoldable pub calls_to : Sheet → List ℕ → (left : ℕ) → Running → List Call
calls_to s text zero r = []
calls_to s text (suc left) r = calls_by s text (calls_to s text left) r r.day.due

-- the book, the count and the journal
abbrev pub state_of : Running → State
state_of r = record { book = r.day.book; count = r.day.count; journal = r.list }

-- "over a list of 2,000 places", on the empty book
unfoldable pub begun : List ℕ → (at : ℕ) → Running
begun text at = record { list = replicate 2000 no_posting; day = day_at text at 0 empty_book }

abbrev pub day_from : Sheet → List ℕ → (at : ℕ) → Day
day_from s text at = (ran_out s text (begun text at)).day

abbrev pub day_calls : Sheet → List ℕ → (at : ℕ) → List Call
day_calls s text at = calls_to s text (most_calls text) (begun text at)
