-- The single calls one after the other: "The first gets the empty book, each later one what the call before returned or left" (01, Book and journal).
use Rattle.std.specs.Prelude.{ℕ, List, [], ◌∷◌}
use Rattle.sheet.specs.declared.Sheet.{Sheet}
use Rattle.state.specs.declared.Book.{Book}
use Rattle.postings.specs.declared.Posting.{Posting}
use Rattle.ledger.specs.Ledger.{Call, Reply}
use Rattle.ledger.specs.Numbers.{reply_of}
use Rattle.ledger.specs.Calls.{State}
use Rattle.engine.specs.Journal.{performed}

-- the replies, and the list, the count and the book that the last call leaves
pub record Folded : Type 0 where
  pub replies : List Reply
  pub list : List Posting
  pub count : ℕ
  pub book : Book

abbrev pub state_left : Folded → State
state_left f = record { book = f.book; count = f.count; journal = f.list }

unfoldable pub folded : Sheet → List Posting → (count : ℕ) → Book → List Call → Folded
folded s l count b [] = record { replies = []; list = l; count = count; book = b }
folded s l count b (c ∷ cs) =
    let p = performed l count s b c in
    let r = folded s p.list p.outcome.count p.outcome.book cs in
    record { replies = reply_of p.outcome.answer p.outcome.place ∷ r.replies; list = r.list; count = r.count; book = r.book }
