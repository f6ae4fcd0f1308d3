-- What the calls leave, with their journal list in numbers.
-- Assumes nothing.
use mathlib.Core.Path.{◌≡◌, ap, ◌∙◌}
use mathlib.Core.List.{List}
use Prim.Native.Nat.{ℕ}
use lib.IntN.{ℤ}
use lib.ListN.{length, replicate}
use Rattle.postings.specs.declared.Posting.{Posting}
use Rattle.postings.specs.Journal.{no_posting}
use Rattle.sheet.specs.declared.Sheet.{Sheet}
use Rattle.state.specs.Book.{empty_book}
use Rattle.journal.specs.declared.Ran.{Ran}
use Rattle.journal.specs.Run.{Running, start_on, turns_of, ran_all}
use Rattle.exports.specs.Exports.{listed_to, own_start, Owned, owned_by, owned_of}

pub owned_is : (sheet : Sheet) (places : ℕ) (calls text answers : List ℕ) (postings : List ℤ) (r : Ran) (list : List Posting) (answered : List ℕ) (numbers : List ℤ)
    → ◌≡◌ {A = Running} (record { list = list; answers = answered; book = r.book; count = r.count }) (ran_all sheet calls text (start_on (replicate places no_posting) answers 0 empty_book) (turns_of (length calls) (length answers)))
    → numbers ≡ listed_to postings list (length list) → ◌≡◌ {A = Owned} (record { ran = r; answers = answered; postings = numbers }) (owned_of sheet places calls text answers postings)
unfolding own_start
owned_is sheet places calls text answers postings r list answered numbers e f =
    ap (λ (z : List ℤ). record { ran = r; answers = answered; postings = z }) f ∙ ap (λ (z : Running). owned_by z postings) e
