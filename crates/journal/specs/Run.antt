-- A list of calls, each on what the call before it left (01, Book and journal: "Demand 3's calls share one list of places (..) with count 0 at
-- first, and one sheet. The first gets the empty book, each later one what the call before returned or left"); here from any book and count on.
use Rattle.std.specs.Prelude.{ℕ, zero, suc, ◌+◌, ◌*◌, ◌/◌, min, cond, List, ltb, length, get_or, set}
use Rattle.finite.specs.Finite.{tabulate}
use Rattle.sheet.specs.declared.Sheet.{Sheet}
use Rattle.state.specs.declared.Book.{Book}
use Rattle.postings.specs.declared.Posting.{Posting}
use Rattle.ledger.specs.Answers.{Answer}
use Rattle.ledger.specs.declared.Outcome.{Outcome}
use Rattle.ledger.specs.Ledger.{Reply}
use Rattle.ledger.specs.Numbers.{number_of, line_of, posted_of}
use Rattle.ledger.specs.Calls.{State}
use Rattle.ledger.specs.Requests.{call_numbers, call_at}
use Rattle.engine.specs.Journal.{Performed, performed}
use Rattle.journal.specs.declared.Accounts.{Accounts}

-- answer i stands in four places: number, line, postings appended, text place
abbrev pub answer_numbers : ℕ
answer_numbers = 4

abbrev pub replied : List ℕ → ℕ → (number line posted place : ℕ) → List ℕ
replied l i number line posted place =
    cond (ltb i (length l / answer_numbers)) (set (set (set (set l (4 * i) number) (4 * i + 1) line) (4 * i + 2) posted) (4 * i + 3) place) l

abbrev pub stored_answer : List ℕ → ℕ → Answer → (place : ℕ) → List ℕ
stored_answer l i a place = replied l i (number_of a) (line_of a) (posted_of a) place

unfoldable pub answered : List ℕ → ℕ → Outcome → List ℕ
answered l i o = stored_answer l i o.answer o.place

-- an answer read back from its places, and the first n of them
abbrev pub reply_in : List ℕ → ℕ → Reply
reply_in l i = record { number = get_or l (4 * i) 0; line = get_or l (4 * i + 1) 0; posted = get_or l (4 * i + 2) 0; place = get_or l (4 * i + 3) 0 }

abbrev pub replies_in : List ℕ → ℕ → List Reply
replies_in l n = tabulate n (reply_in l)

-- as many calls as there are whole groups of numbers, and places for answers
unfoldable pub turns_of : (calls answers : ℕ) → ℕ
turns_of calls answers = min (calls / call_numbers) (answers / answer_numbers)

-- the list of places, the answers, the book and the count
pub record Running : Type 0 where
  pub list : List Posting
  pub answers : List ℕ
  pub book : Book
  pub count : ℕ

abbrev pub running : Accounts → List ℕ → Running
running a answers = record { list = a.list.now; answers = answers; book = a.book; count = a.count }

abbrev pub start_on : List Posting → List ℕ → (count : ℕ) → Book → Running
start_on list answers count b = record { list = list; answers = answers; book = b; count = count }

abbrev pub state_of : Running → State
state_of s = record { book = s.book; count = s.count; journal = s.list }

abbrev pub performed_at : Sheet → (calls text : List ℕ) → Running → ℕ → Performed
performed_at sheet calls text s i = performed s.list s.count sheet s.book (call_at calls text i)

-- call i of the list
unfoldable pub turned : Sheet → (calls text : List ℕ) → Running → ℕ → Running
turned sheet calls text s i =
    let p = performed_at sheet calls text s i in
    record { list = p.list; answers = answered s.answers i p.outcome; book = p.outcome.book; count = p.outcome.count }

-- the first calls one after the other
unfoldable pub ran_all : Sheet → (calls text : List ℕ) → Running → ℕ → Running
ran_all sheet calls text s zero = s
ran_all sheet calls text s (suc k) = turned sheet calls text (ran_all sheet calls text s k) k
