-- A total changes nothing: no call stands beside it (`left_by_asks`). A take in hour 0 would change nothing either: it is refused under every sheet, book
-- and count, since the first of 9, 12 and 10 that holds refuses it.
-- Assumes nothing.
use Rattle.std.specs.Prelude.{Err, Bool, true, false, cond}
use mathlib.Core.Path.{◌≡◌, refl}
use mathlib.Core.List.{List}
use Prim.Native.Nat.{ℕ}
use Rattle.sheet.specs.declared.Sheet.{Sheet}
use Rattle.state.specs.declared.Book.{Book}
use Rattle.postings.specs.declared.Posting.{Posting}
use Rattle.ledger.specs.declared.Refusal.TheVariants.{SheetRange, BookRange, HourRange}
use Rattle.ledger.specs.Calls.{Decision, by_verdict, refused_with, verdict, decided, request_rows}
use Rattle.ledger.specs.Ledger.{take}
use Rattle.engine.specs.Journal.{Performed, done_by, performed}

pub record Untouched (l : List Posting) (count : ℕ) (b : Book) (p : Performed) : Type 0 where
  pub list : p.list ≡ l
  pub count_same : p.outcome.count ≡ count
  pub book : p.outcome.book ≡ b

by_first : (x y : Bool) (l : List Posting) (count : ℕ) (b : Book) (d : Decision) → Untouched l count b (done_by l (by_verdict (cond x (Err SheetRange) (cond y (Err BookRange) (Err HourRange))) d (refused_with b count 0)))
by_first true y l count b d = record { list = refl; count_same = refl; book = refl }
by_first false true l count b d = record { list = refl; count_same = refl; book = refl }
by_first false false l count b d = record { list = refl; count_same = refl; book = refl }

pub untouched : (l : List Posting) (count : ℕ) (sheet : Sheet) (b : Book) → Untouched l count b (performed l count sheet b (take 0 0 0))
unfolding performed decided request_rows verdict
untouched l count sheet b = by_first _ _ l count b _
