-- The postings of one call (01, Book and journal).
use Rattle.std.specs.Prelude.{ℕ, zero, suc, ◌+◌, ◌*◌, ◌-◌, cond, List, [], ◌++◌, ◌-ℤ◌, length, get_or, replicate}
use Rattle.finite.specs.Finite.{tabulate}
use Rattle.units.specs.Units.{member_at, unit_count}
use Rattle.settlement.specs.declared.Amounts.{Amounts}
use Rattle.state.specs.Sizes.{places, items}
use Rattle.state.specs.Book.{past_amounts, item_of}
use Rattle.postings.specs.declared.Posting.{Posting}
use Rattle.postings.specs.declared.Plan.{Plan}
use Rattle.postings.specs.Journal.{no_posting}

-- "Settle, restate and void then post each amount's new value less its old one": item i, from 0, of the unit of place k
abbrev pub posting_of : ℕ → ℕ → Amounts → Amounts → ℕ → Posting
posting_of hour k old new i = record { hour = hour; unit = k + 1; item = i + 1; amount = item_of new i -ℤ item_of old i }

-- "settle, restate and void append five per unit, zeros included, unit then item ascending"
unfoldable pub unit_postings : ℕ → ℕ → Amounts → Amounts → List Posting
unit_postings hour k old new = tabulate items (posting_of hour k old new)

-- "five per unit"
abbrev pub entry_size : ℕ → ℕ
entry_size units = items * unit_count units

-- those of the plant's units at the first n places; amounts are by place
unfoldable pub postings_to : ℕ → ℕ → List Amounts → List Amounts → ℕ → List Posting
postings_to hour units old new zero = []
postings_to hour units old new (suc k) =
    postings_to hour units old new k
    ++ cond (member_at units k) (unit_postings hour k (get_or old k past_amounts) (get_or new k past_amounts)) []

unfoldable pub postings_of : ℕ → ℕ → List Amounts → List Amounts → List Posting
postings_of hour units old new = postings_to hour units old new places

-- the rows of a plan: postings, then none
abbrev pub plan_rows : ℕ
plan_rows = items * places

unfoldable pub padded : List Posting → List Posting
padded l = l ++ replicate (plan_rows - length l) no_posting

unfoldable pub plan_of : ℕ → ℕ → List Amounts → List Amounts → Plan
plan_of hour units old new = record { row = padded (postings_of hour units old new) }

abbrev pub row_of : Plan → ℕ → Posting
row_of plan k = get_or plan.row k no_posting
