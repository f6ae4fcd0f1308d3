-- A call over the lent journal (01, Book and journal): what it answers and leaves, and what it appends.
use Rattle.std.specs.Prelude.{ℕ, List, Option, ℤ, length}
use Rattle.sheet.specs.declared.Sheet.{Sheet}
use Rattle.state.specs.declared.Book.{Book}
use Rattle.postings.specs.declared.Posting.{Posting}
use Rattle.postings.specs.Journal.{covered_by, scanned_to}
use Rattle.ledger.specs.declared.Outcome.{Outcome}
use Rattle.ledger.specs.Ledger.{Call}
use Rattle.ledger.specs.Calls.{request_of, decided_on, journal_after, outcome_of, Decision}

-- what a scan sees of the first postings, none past the count, the list or 100,000: where each is within its bound, the total of a unit and an item
abbrev pub scanned_in : List Posting → (count unit item : ℕ) → Option ℤ
scanned_in l count unit item = scanned_to l unit item (covered_by count (length l))

-- the answer, text place, count and book after a call, and the list
pub record Performed : Type 0 where
  pub outcome : Outcome
  pub list : List Posting

abbrev pub done_by : List Posting → Decision → Performed
done_by l d = record { outcome = outcome_of d; list = journal_after l d }

-- a call on a list with `count` postings
unfoldable pub performed : List Posting → (count : ℕ) → Sheet → Book → Call → Performed
performed l count s b c = done_by l (decided_on s (record { book = b; count = count; journal = l }) (request_of s c))
