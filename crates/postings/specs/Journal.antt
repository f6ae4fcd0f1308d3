-- The journal: postings and a count of them, what refusal 12 asks of both, and totals (01, Book and journal).
use Rattle.std.specs.Prelude.{ℕ, zero, suc, ◌*◌, ◌-◌, min, Bool, true, cond, ◌&&◌, List, [], ◌∷◌, Option, None, Some, leb, eqb, ℤ, pos, ◌+ℤ◌, length, get_or}
use Rattle.state.specs.Ranges.{within}
use Rattle.postings.specs.declared.Posting.{Posting}

-- a posting of nothing, which an index past the end reads too
abbrev pub no_posting : Posting
no_posting = record { hour = 0; unit = 0; item = 0; amount = pos 0 }

-- "count above the list or 100,000"
abbrev pub most_postings : ℕ
most_postings = 100000

unfoldable pub count_holds : ℕ → ℕ → Bool
count_holds count len = leb count len && leb count most_postings

-- the number of postings looked at: those up to the count, none past the list or past 100,000
unfoldable pub covered_by : ℕ → ℕ → ℕ
covered_by count len = min (min count len) most_postings

-- "posted beyond ±10^12"
abbrev pub most_posted : ℕ
most_posted = 1000000000000

unfoldable pub posted_hold : List Posting → Bool
posted_hold [] = true
posted_hold (x ∷ l) = within x.amount most_posted && posted_hold l

-- "A total call adds the postings of a unit and item."
abbrev pub is_of : Posting → ℕ → ℕ → Bool
is_of x unit item = eqb x.unit unit && eqb x.item item

unfoldable pub total_of : ℕ → ℕ → List Posting → ℤ
total_of unit item [] = pos 0
total_of unit item (x ∷ l) = cond (is_of x unit item) x.amount (pos 0) +ℤ total_of unit item l

-- both in one pass: what the postings add up to, and nothing once one is beyond ±10^12. One posting more is added where it is the unit's and the
-- item's; the bound on the sum, which 100,000 good postings cannot reach, keeps it in its machine word.
abbrev pub most_total : ℕ
most_total = most_postings * most_posted

abbrev pub most_before : ℕ
most_before = most_total - most_posted

unfoldable pub scanned_with : Option ℤ → Posting → ℕ → ℕ → Option ℤ
scanned_with None x unit item = None
scanned_with (Some sum) x unit item =
    cond (within x.amount most_posted) (Some (cond (is_of x unit item && within sum most_before) (sum +ℤ x.amount) sum)) None

abbrev pub scanned_none : Option ℤ
scanned_none = Some (pos 0)

-- the first k postings of a list, and all of them
unfoldable pub scanned_to : List Posting → ℕ → ℕ → ℕ → Option ℤ
scanned_to l unit item zero = scanned_none
scanned_to l unit item (suc k) = scanned_with (scanned_to l unit item k) (get_or l k no_posting) unit item

abbrev pub scanned : ℕ → ℕ → List Posting → Option ℤ
scanned unit item l = scanned_to l unit item (length l)
