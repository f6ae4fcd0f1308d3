-- The book as four lists of numbers: commitments in hub kWh, marks, energies in grains, and amounts, five to an hour and place.
use Rattle.std.specs.Prelude.{Bool, List, ℕ, ◌+◌, ◌*◌, ◌/◌, ◌%◌, leb, ℤ, pos, get_or}
use Rattle.finite.specs.Finite.{every, tabulate}
use Rattle.energy.specs.declared.HubKwh.{HubKwh}
use Rattle.energy.specs.declared.HubGrains.{HubGrains}
use Rattle.sheet.specs.declared.UnitSheet.{UnitSheet}
use Rattle.sheet.specs.Ranges.{offer_at}
use Rattle.settlement.specs.declared.Amounts.{Amounts}
use Rattle.state.specs.declared.Book.{Book}
use Rattle.state.specs.Sizes.{hours, items, entries, entry_of}
use Rattle.state.specs.Book.{no_kwh, no_grains, past_amounts, item_of}
use Rattle.state.specs.Ranges.{limit_of}

-- the book of four lists of numbers
unfoldable pub commitments_of : List ℕ → List HubKwh
commitments_of c = tabulate entries (λ j. record { 0 = get_or c j 0 })

unfoldable pub energies_of : List ℕ → List HubGrains
energies_of e = tabulate entries (λ j. record { 0 = get_or e j 0 })

abbrev pub amounts_at : List ℤ → ℕ → Amounts
amounts_at a j = record { item = tabulate items (λ i. get_or a (items * j + i) (pos 0)) }

unfoldable pub amounts_of : List ℤ → List Amounts
amounts_of a = tabulate entries (amounts_at a)

abbrev pub book_of : (commitment mark energy : List ℕ) → (amounts : List ℤ) → Book
book_of c m e a = record { commitment = commitments_of c; mark = m; energy = energies_of e; amounts = amounts_of a }

-- the numbers of a book's commitments, energies and amounts
unfoldable pub kwh_of : List HubKwh → List ℕ
kwh_of commitment = tabulate entries (λ j. (get_or commitment j no_kwh).0)

unfoldable pub grains_of : List HubGrains → List ℕ
grains_of energy = tabulate entries (λ j. (get_or energy j no_grains).0)

unfoldable pub amount_numbers : List Amounts → List ℤ
amount_numbers amounts = tabulate (items * entries) (λ n. item_of (get_or amounts (n / items) past_amounts) (n % items))

-- refusal 12's test of place k, of the commitments as numbers
abbrev pub kept_to : Bool → UnitSheet → List ℕ → ℕ → Bool
kept_to member u kwh k = every hours (λ h. leb (get_or kwh (entry_of h k) 0) (limit_of member (offer_at u h)).0)
