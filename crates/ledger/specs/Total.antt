-- 01, Book and journal: "A total call adds the postings of a unit and item."
use Rattle.std.specs.Prelude.{ℕ, Bool, cond, ◌&&◌, leb, ℤ, length, take, Ok, Err}
use Rattle.units.specs.Units.{is_member}
use Rattle.sheet.specs.declared.Sheet.{Sheet}
use Rattle.sheet.specs.Ranges.{sheet_holds}
use Rattle.state.specs.declared.Book.{Book}
use Rattle.postings.specs.Journal.{posted_hold, total_of}
use Rattle.ledger.specs.declared.Refusal.TheVariants.{SheetRange, BookRange, UnitUnknown}
use Rattle.ledger.specs.Answers.{TotalAnswer}
use Rattle.ledger.specs.Calls.{State, book_fits}

-- 9, then 12, then 11; a refused total call has no total
unfoldable pub total_by : (sheet_fits book_fits known : Bool) → ℤ → TotalAnswer
total_by sheet_fits book_fits known sum =
    cond sheet_fits (cond book_fits (cond known (Ok sum) (Err UnitUnknown)) (Err BookRange)) (Err SheetRange)

-- 11: "unit not in the plant (total: or item not 1–5)"
abbrev pub item_of : Sheet → (unit item : ℕ) → Bool
item_of s unit item = is_member s.units unit && (leb 1 item && leb item 5)

-- `good` says that each posting up to the count is in its range
unfoldable pub total_decided : Sheet → Book → (unit item count places : ℕ) → (good : Bool) → ℤ → TotalAnswer
total_decided s b unit item count places good sum = total_by (sheet_holds s) (book_fits s b count places good) (item_of s unit item) sum

-- on a book and a journal: the postings up to the count
unfoldable pub total_on : Sheet → State → (unit item : ℕ) → TotalAnswer
total_on s st unit item =
    let posted = take st.count st.journal in
    total_decided s st.book unit item st.count (length st.journal) (posted_hold posted) (total_of unit item posted)
