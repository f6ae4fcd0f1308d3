-- A call over the accounts of a plant's day: its sheet, the book, and the lent list of postings with a count (01, Book and journal).
use Rattle.std.specs.Prelude.{◌≡◌, cond, ℤ, take, Result, Ok, Err}
use Rattle.std.specs.Prelude.{ℕ}
use Rattle.sheet.specs.declared.Sheet.{Sheet}
use Rattle.sheet.specs.Ranges.{sheet_holds}
use Rattle.state.specs.Book.{Sized}
use Rattle.postings.specs.Journal.{total_of}
use Rattle.ledger.specs.declared.Refusal.{Refusal}
use Rattle.ledger.specs.declared.Refusal.TheVariants.{SheetRange, BookRange}
use Rattle.ledger.specs.Answers.{Verdict}
use Rattle.ledger.specs.Ledger.{Call}
use Rattle.ledger.specs.Calls.{State, fits_in}
use Rattle.engine.specs.declared.Done.{Done}
use Rattle.engine.specs.Journal.{performed}
use Rattle.engine.specs.Carried.{left}
use Rattle.journal.specs.declared.Accounts.{Accounts}

-- the book, the count and the list of places
abbrev pub state_in : Accounts → State
state_in a = record { book = a.book; count = a.count; journal = a.list.now }

-- 9, then 12, at every call
abbrev pub passes : Sheet → State → Verdict
passes s st = cond (sheet_holds s) (cond (fits_in s st) (Ok tt) (Err BookRange)) (Err SheetRange)

-- and where neither holds, the total of a unit and an item of the postings up to the count
abbrev pub tested : Sheet → State → (unit item : ℕ) → Result ℤ Refusal
tested s st unit item = cond (sheet_holds s) (cond (fits_in s st) (Ok (total_of unit item (take st.count st.journal))) (Err BookRange)) (Err SheetRange)

-- it is known whether 9 or 12 refuses the calls on the accounts
pub record Known (a : Accounts) (v : Verdict) : Type 0 where
  pub sized : Sized a.book
  pub known : passes a.sheet.now (state_in a) ≡ v

-- the same sheet, and the same lent list
pub record Same (a a' : Accounts) : Type 0 where
  pub sheet : a'.sheet ≡ a.sheet
  pub list : a'.list.ghost_name ≡ a.list.ghost_name

-- a call on the accounts: its answer, text place and count, and the accounts after it
pub record Performs (a : Accounts) (c : Call) (a' : Accounts) (r : Done) : Type 0 where
  pub done : left r a'.book a'.list.now ≡ performed a.list.now a.count a.sheet.now a.book c
  pub counted : a'.count ≡ r.count
  pub same : Same a a'
