-- The table is about the calls' own conditions: its refusal is the first row of `always_rows` that holds, the rows of 9 and 12 with which every
-- call begins. By cases on the two tests.
-- Assumes nothing.
use Rattle.std.specs.Prelude.{Ok, Err}
use mathlib.Core.Path.{◌≡◌, refl}
use mathlib.Core.Bool.{Bool, true, false, cond, not}
use lib.ListN.{length, take}
use Rattle.sheet.specs.Ranges.{sheet_holds}
use Rattle.postings.specs.Journal.{posted_hold}
use Rattle.ledger.specs.declared.Refusal.TheVariants.{SheetRange, BookRange}
use Rattle.ledger.specs.Calls.{verdict, always_rows, book_fits}
use Rattle.bounds.specs.Given.{Given, refusal, number_of}

pub refusal_is : (g : Given)
    → refusal g ≡ number_of (verdict (always_rows g.sheet g.book g.count (length g.journal) (posted_hold (take g.count g.journal))))
unfolding refusal verdict
refusal_is g = by (sheet_holds g.sheet) (book_fits g.sheet g.book g.count (length g.journal) (posted_hold (take g.count g.journal)))
  where
    by : (sheet-fits book_fits_lem : Bool)
        → cond sheet-fits (cond book_fits_lem 0 12) 9 ≡ number_of (cond (not sheet-fits) (Err SheetRange) (cond (not book_fits_lem) (Err BookRange) (Ok tt)))
    by true true = refl
    by true false = refl
    by false book_fits_lem = refl
