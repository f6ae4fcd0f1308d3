-- The book, how it is read, and what the calls write into it (01, Book and journal). Hours and places are counted from 0.
use Rattle.std.specs.Prelude.{◌≡◌, cond, ◌&&◌, List, [], ℕ, ◌/◌, ◌%◌, ◌<◌, eqb, ℤ, pos, length, get_or, set, replicate}
use Rattle.finite.specs.Finite.{tabulate}
use Rattle.energy.specs.declared.HubKwh.{HubKwh}
use Rattle.energy.specs.declared.HubGrains.{HubGrains}
use Rattle.units.specs.Units.{member_at}
use Rattle.settlement.specs.declared.Amounts.{Amounts}
use Rattle.settlement.specs.declared.HourResult.{HourResult}
use Rattle.state.specs.declared.Book.{Book}
use Rattle.state.specs.Sizes.{hours, places, items, entries, entry_of}

-- no energy
abbrev pub no_kwh : HubKwh
no_kwh = record { 0 = 0 }

abbrev pub no_grains : HubGrains
no_grains = record { 0 = 0 }

-- a unit's amounts, all 0, and what an index past the end of the amounts reads
abbrev pub no_amounts : Amounts
no_amounts = record { item = replicate items (pos 0) }

abbrev pub past_amounts : Amounts
past_amounts = record { item = [] }

-- "hour mark neither open nor settled"
abbrev pub open_mark : ℕ
open_mark = 0

abbrev pub settled_mark : ℕ
settled_mark = 1

-- "The book holds commitments, hour marks, and a settled hour's energies and amounts by unit"
abbrev pub commitment_at : Book → ℕ → ℕ → HubKwh
commitment_at b h k = get_or b.commitment (entry_of h k) no_kwh

abbrev pub mark_at : Book → ℕ → ℕ
mark_at b h = get_or b.mark h 0

abbrev pub energy_at : Book → ℕ → ℕ → HubGrains
energy_at b h k = get_or b.energy (entry_of h k) no_grains

abbrev pub amounts_at : Book → ℕ → ℕ → Amounts
amounts_at b h k = get_or b.amounts (entry_of h k) past_amounts

-- item i, from 0, of a unit's amounts
abbrev pub item_of : Amounts → ℕ → ℤ
item_of a i = get_or a.item i (pos 0)

abbrev pub amount_at : Book → ℕ → ℕ → ℕ → ℤ
amount_at b h k i = item_of (amounts_at b h k) i

-- an hour's commitments and amounts, by place
unfoldable pub hour_commitments : Book → ℕ → List HubKwh
hour_commitments b h = tabulate places (commitment_at b h)

unfoldable pub hour_amounts : Book → ℕ → List Amounts
hour_amounts b h = tabulate places (amounts_at b h)

-- how many entries a book has
pub record Sized (b : Book) : Type 0 where
  pub commitment : length b.commitment ≡ entries
  pub mark : length b.mark ≡ hours
  pub energy : length b.energy ≡ entries
  pub amounts : length b.amounts ≡ entries
  pub item : (h k : ℕ) → h < hours → k < places → length (amounts_at b h k).item ≡ items

-- "The empty book has no commitments, all hours open"; energies and amounts are "0 while open"
unfoldable pub empty_book : Book
empty_book =
    record {
      commitment = replicate entries no_kwh;
      mark = replicate hours open_mark;
      energy = replicate entries no_grains;
      amounts = replicate entries no_amounts;
    }

-- the energies and amounts of an hour without a record: "or 0 without a record"
unfoldable pub no_result : HourResult
no_result = record { energy = replicate places no_grains; amounts = replicate places no_amounts }

-- "Otherwise take adds its kWh, release subtracts them, move does both": the new commitment in the old one's place
unfoldable pub with_commitment : Book → ℕ → ℕ → HubKwh → Book
with_commitment b h k kwh =
    record { commitment = set b.commitment (entry_of h k) kwh; mark = b.mark; energy = b.energy; amounts = b.amounts }

-- the entries of the plant's units in hour h give way to the new ones, by place; all others stay
unfoldable pub stored : {A : Type 0} → A → ℕ → ℕ → List A → List A → List A
stored none h units new old =
    tabulate entries
    (λ j. cond (member_at units (j % places) && eqb (j / places) h) (get_or new (j % places) none) (get_or old j none))

-- "An hour stands settled from an accepted settle until an accepted void": its mark, and its units' energies and amounts
unfoldable pub with_hour : Book → ℕ → ℕ → ℕ → HourResult → Book
with_hour b h mark units r =
    record {
      commitment = b.commitment;
      mark = set b.mark h mark;
      energy = stored no_grains h units r.energy b.energy;
      amounts = stored past_amounts h units r.amounts b.amounts;
    }
