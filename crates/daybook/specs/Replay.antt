-- The bytes that `replay` prints for a text: a list of calls carried out and printed one by one, and behind the last the tables. "Each is carried
-- out as it comes, over a list of 2,000 places."
use Rattle.std.specs.Prelude.{Option, Some, None, Result, Ok, Err}
use Rattle.text.specs.declared.TextFault.{TextFault}
use Rattle.lines.specs.declared.TextRefusal.{TextRefusal}
use Rattle.lines.specs.Refusals.{text_number}
use Rattle.std.specs.Prelude.{◌≡◌, ℕ, zero, suc, ◌+◌, ◌/◌, ◌%◌, List, [], ◌++◌, replicate}
use Rattle.sheet.specs.declared.Sheet.{Sheet}
use Rattle.sheet_text.specs.Day.{read_sheet}
use Rattle.state.specs.declared.Book.{Book}
use Rattle.state.specs.Book.{empty_book}
use Rattle.postings.specs.declared.Posting.{Posting}
use Rattle.postings.specs.Journal.{no_posting}
use Rattle.ledger.specs.Answers.{TotalAnswer}
use Rattle.ledger.specs.declared.Asked.{Asked}
use Rattle.ledger.specs.Requests.{call_for}
use Rattle.ledger.specs.Total.{total_on}
use Rattle.engine.specs.Journal.{Performed, performed}
use Rattle.asks.specs.declared.Asks.{Asks}
use Rattle.asks.specs.declared.Asks.TheVariants.{Call, Total}
use Rattle.asks.specs.declared.Asking.{Asking}
use Rattle.asks.specs.declared.Extent.{Extent}
use Rattle.asks.specs.Asks.{asking_at}
use Rattle.asks.specs.Extent.{extent_of}
use Rattle.listing.specs.Listing.{joined}
use Rattle.entries.specs.Entries.{answer_text, total_text, entry_line, sheet_refused, stop_line}
use Rattle.entries.specs.Tables.{tables, total_line}
use Rattle.journal.specs.Accounts.{Same}
use Rattle.daybook.specs.declared.Replay.{Replay}

-- the journal's list, the count and the book, and the place of the next line in the text
pub record Course : Type 0 where
  pub list : List Posting
  pub count : ℕ
  pub book : Book
  pub at : ℕ

abbrev pub course : Replay → Course
course r = record { list = r.accounts.list.now; count = r.accounts.count; book = r.accounts.book; at = r.at }

-- a run that has come to a course, of the same text and sheet and over the same lent list
pub record Goes (r r' : Replay) (c : Course) : Type 0 where
  pub course_is : course r' ≡ c
  pub same : Same r.accounts r'.accounts
  pub text_is : r'.text ≡ r.text

-- the call of a line, and the total of a line
abbrev pub called : Sheet → List ℕ → Course → Asked → Performed
called sheet text c a = performed c.list c.count sheet c.book (call_for text a)

abbrev pub totalled : Sheet → Course → (unit item : ℕ) → TotalAnswer
totalled sheet c unit item = total_on sheet (record { book = c.book; count = c.count; journal = c.list }) unit item

-- what a line leaves; a total changes nothing
abbrev pub left_at : (next : ℕ) → Performed → Course
left_at next p = record { list = p.list; count = p.outcome.count; book = p.outcome.book; at = next }

abbrev pub left_by_asks : Sheet → List ℕ → Course → (next : ℕ) → Asks → Course
left_by_asks sheet text c next (Call a) = left_at next (called sheet text c a)
left_by_asks sheet text c next (Total unit item) = record { list = c.list; count = c.count; book = c.book; at = next }

abbrev pub left_by : Sheet → List ℕ → Course → Asking → Course
left_by sheet text c a = left_by_asks sheet text c a.next a.asked

-- what is printed of it
abbrev pub result_text : Sheet → List ℕ → Course → Asks → List ℕ
result_text sheet text c (Call a) = answer_text (called sheet text c a).outcome.answer
result_text sheet text c (Total unit item) = total_text (totalled sheet c unit item)

abbrev pub printed_by : Sheet → List ℕ → Course → Asks → List ℕ
printed_by sheet text c a = entry_line text c.at (result_text sheet text c a)

-- a line of the text by what it asks; one that is no call would leave all as it stands, but none of those carried out is (`carried_calls`,
-- proofs/Carried.antt): its line is printed by `ending`
abbrev pub stepped_by : Sheet → List ℕ → Course → Result Asking TextFault → Course
stepped_by sheet text c (Ok a) = left_by sheet text c a
stepped_by sheet text c (Err f) = c

unfoldable pub stepped : Sheet → List ℕ → Course → Course
stepped sheet text c = stepped_by sheet text c (asking_at text c.at)

abbrev pub step_line_by : Sheet → List ℕ → Course → Result Asking TextFault → List ℕ
step_line_by sheet text c (Ok a) = printed_by sheet text c a.asked
step_line_by sheet text c (Err f) = []

unfoldable pub step_line : Sheet → List ℕ → Course → List ℕ
step_line sheet text c = step_line_by sheet text c (asking_at text c.at)

unfoldable pub steps : Sheet → List ℕ → Course → ℕ → Course
steps sheet text c zero = c
steps sheet text c (suc k) = stepped sheet text (steps sheet text c k)

abbrev pub nth_line : Sheet → List ℕ → Course → ℕ → List ℕ
nth_line sheet text c k = step_line sheet text (steps sheet text c k)

-- "over a list of 2,000 places"
unfoldable pub own_list : List Posting
own_list = replicate 2000 no_posting

-- "a day sheet; then lines": the calls from the place behind the sheet on
abbrev pub begun : (from : ℕ) → Course
begun from = record { list = own_list; count = 0; book = empty_book; at = from }

-- "`total UNIT ITEM RIAL` for each unit of the plant and item": total n, from 0, of those of eight units and five items
unfoldable pub listed_total : Sheet → Course → ℕ → List ℕ
listed_total sheet c n =
    let t = totalled sheet c (n / 5 + 1) (n % 5 + 1) in
    total_line (n / 5 + 1) (n % 5 + 1) t

unfoldable pub last_tables : Sheet → Course → List ℕ
last_tables sheet c = tables sheet.units c.book ++ joined 40 (listed_total sheet c)

-- at the end of the text the tables; "A line that is no call ends the run (..) and no tables."
unfoldable pub ending : Sheet → Course → Option TextRefusal → List ℕ
ending sheet c None = last_tables sheet c
ending sheet c (Some r) = stop_line r.line (text_number r)

unfoldable pub call_lines : Sheet → List ℕ → Course → Extent → List ℕ
call_lines sheet text c e = joined e.calls (nth_line sheet text c) ++ ending sheet (steps sheet text c e.calls) e.stop

abbrev pub replayed_by : List ℕ → Result ℕ TextRefusal → Sheet → List ℕ
replayed_by text (Ok place) sheet = call_lines sheet text (begun place) (extent_of text place)
replayed_by text (Err r) sheet = sheet_refused r

unfoldable pub replayed : List ℕ → List ℕ
replayed text = replayed_by text (read_sheet text 0).answer (read_sheet text 0).sheet
