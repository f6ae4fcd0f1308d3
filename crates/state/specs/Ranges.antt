-- 01, refusal 12, the book's part: "commitment above the last offer, or over 0 outside the plant; hour mark neither open nor settled; ..
-- stored amount beyond ±10^11 ..; stored energy above 8 × 10^10". All 24 hours and eight places are looked at, those of open hours too.
use Rattle.std.specs.Prelude.{◌≡◌, ℕ, ◌≤◌, ◌<◌, Bool, true, cond, ◌&&◌, ◌||◌, List, leb, eqb, ℤ, nat_abs, get_or}
use Rattle.finite.specs.Finite.{every}
use Rattle.energy.specs.declared.HubKwh.{HubKwh}
use Rattle.energy.specs.declared.HubGrains.{HubGrains}
use Rattle.units.specs.Units.{member_at}
use Rattle.offer.specs.declared.Offer.{Offer}
use Rattle.offer.specs.Offer.{last_quantity}
use Rattle.sheet.specs.declared.UnitSheet.{UnitSheet}
use Rattle.sheet.specs.declared.Sheet.{Sheet}
use Rattle.sheet.specs.Ranges.{unit_at, offer_at}
use Rattle.settlement.specs.declared.Amounts.{Amounts}
use Rattle.state.specs.declared.Book.{Book}
use Rattle.state.specs.Sizes.{hours, places, items, entries, entry_of}
use Rattle.state.specs.Book.{no_kwh, no_grains, past_amounts, open_mark, settled_mark, item_of}

-- "stored amount beyond ±10^11", "stored energy above 8 × 10^10"
abbrev pub most_amount : ℕ
most_amount = 100000000000

abbrev pub most_energy : ℕ
most_energy = 80000000000

-- an amount lies between -most and most, both included
abbrev pub within : ℤ → ℕ → Bool
within amount most = leb (nat_abs amount) most

-- a unit's amounts are within their bound; so are those of the plant's units, by place, and their energies within theirs
abbrev pub ItemsWithin : Amounts → Type 0
ItemsWithin a = (i : ℕ) → i < items → nat_abs (item_of a i) ≤ most_amount

abbrev pub AmountsWithin : ℕ → List Amounts → Type 0
AmountsWithin units amounts = (k : ℕ) → member_at units k ≡ true → ItemsWithin (get_or amounts k past_amounts)

abbrev pub EnergiesWithin : ℕ → List HubGrains → Type 0
EnergiesWithin units energy = (k : ℕ) → member_at units k ≡ true → (get_or energy k no_grains).0 ≤ most_energy

-- what a unit's commitment may not exceed: the offer's last quantity, and 0 outside the plant
unfoldable pub limit_of : Bool → Offer → HubKwh
limit_of member offer = cond member (last_quantity offer) no_kwh

abbrev pub limit_at : Sheet → ℕ → ℕ → HubKwh
limit_at s h k = limit_of (member_at s.units k) (offer_at (unit_at s.unit k) h)

-- the commitments of place k
abbrev pub place_holds : Bool → UnitSheet → List HubKwh → ℕ → Bool
place_holds member u commitment k =
    every hours (λ h. leb (get_or commitment (entry_of h k) no_kwh).0 (limit_of member (offer_at u h)).0)

abbrev pub commitments_hold : ℕ → List UnitSheet → List HubKwh → Bool
commitments_hold units unit commitment = every places (λ k. place_holds (member_at units k) (unit_at unit k) commitment k)

abbrev pub marks_hold : List ℕ → Bool
marks_hold mark = every hours (λ h. eqb (get_or mark h 0) open_mark || eqb (get_or mark h 0) settled_mark)

abbrev pub energies_hold : List HubGrains → Bool
energies_hold energy = every entries (λ j. leb (get_or energy j no_grains).0 most_energy)

abbrev pub items_hold : Amounts → Bool
items_hold a = every items (λ i. within (item_of a i) most_amount)

abbrev pub amounts_hold : List Amounts → Bool
amounts_hold amounts = every entries (λ j. items_hold (get_or amounts j past_amounts))

unfoldable pub book_holds : Sheet → Book → Bool
book_holds s b =
    (commitments_hold s.units s.unit b.commitment && marks_hold b.mark)
    && (energies_hold b.energy && amounts_hold b.amounts)
