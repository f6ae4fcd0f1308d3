-- 9 and 12 at every hour and place: of any sheet and book that are not refused, one value is replaced by any other, and what they then
-- say is the test of that value alone. Hours, places and items are counted from 0.
use Rattle.std.specs.Prelude.{◌≡◌, true, cond, ◌||◌, ℕ, ◌<◌, leb, eqb, ℤ, nat_abs, set}
use Rattle.units.specs.Units.{member_at}
use Rattle.offer.specs.declared.Offer.{Offer}
use Rattle.offer.specs.Offer.{offer_holds}
use Rattle.sheet.specs.declared.UnitSheet.{UnitSheet}
use Rattle.sheet.specs.declared.Sheet.{Sheet}
use Rattle.sheet.specs.Ranges.{unit_holds, sheet_holds}
use Rattle.state.specs.declared.Book.{Book}
use Rattle.state.specs.Sizes.{entry_of}
use Rattle.state.specs.Book.{amounts_at}
use Rattle.state.specs.Ranges.{limit_at, book_holds}

abbrev pub with_cpf : Sheet → ℕ → ℕ → Sheet
with_cpf s h n =
    record {
      month = s.month;
      day = s.day;
      loss = s.loss;
      ceiling = s.ceiling;
      bar = s.bar;
      cpf = set s.cpf h n;
      units = s.units;
      unit = s.unit;
    }

abbrev pub with_unit : Sheet → ℕ → UnitSheet → Sheet
with_unit s k u =
    record {
      month = s.month;
      day = s.day;
      loss = s.loss;
      ceiling = s.ceiling;
      bar = s.bar;
      cpf = s.cpf;
      units = s.units;
      unit = set s.unit k u;
    }

abbrev pub with_offer : UnitSheet → ℕ → Offer → UnitSheet
with_offer u h o = record { own = u.own; nominal = u.nominal; monthly = u.monthly; offers = set u.offers h o }

-- "`cpf` 24 lines in thousandths 0–10,000"; "(of units, only the plant's)"
pub record SheetBounds (s : Sheet) : Type 0 where
  pub cpf : (h n : ℕ) → h < 24 → sheet_holds (with_cpf s h n) ≡ leb n 10000
  pub unit : (k : ℕ) (u : UnitSheet) → k < 8 → sheet_holds (with_unit s k u) ≡ cond (member_at s.units k) (unit_holds u) true

-- "24 lines `offer`"
pub record UnitBounds (u : UnitSheet) : Type 0 where
  pub offer : (h : ℕ) (o : Offer) → h < 24 → unit_holds (with_offer u h o) ≡ offer_holds o

abbrev pub with_commitment : Book → (h k n : ℕ) → Book
with_commitment b h k n =
    record { commitment = set b.commitment (entry_of h k) (record { 0 = n }); mark = b.mark; energy = b.energy; amounts = b.amounts }

abbrev pub with_mark : Book → (h n : ℕ) → Book
with_mark b h n = record { commitment = b.commitment; mark = set b.mark h n; energy = b.energy; amounts = b.amounts }

abbrev pub with_energy : Book → (h k n : ℕ) → Book
with_energy b h k n =
    record { commitment = b.commitment; mark = b.mark; energy = set b.energy (entry_of h k) (record { 0 = n }); amounts = b.amounts }

abbrev pub with_amount : Book → (h k i : ℕ) → ℤ → Book
with_amount b h k i z =
    record {
      commitment = b.commitment;
      mark = b.mark;
      energy = b.energy;
      amounts = set b.amounts (entry_of h k) (record { item = set (amounts_at b h k).item i z });
    }

-- "commitment above the last offer, or over 0 outside the plant" (crate state: `limit_at` is that quantity, and 0 outside the plant);
-- "hour mark neither open nor settled; .. stored amount beyond ±10^11 ..; stored energy above 8 × 10^10"
pub record BookBounds (s : Sheet) (b : Book) : Type 0 where
  pub commitment : (h k n : ℕ) → h < 24 → k < 8 → book_holds s (with_commitment b h k n) ≡ leb n (limit_at s h k).0
  pub mark : (h n : ℕ) → h < 24 → book_holds s (with_mark b h n) ≡ (eqb n 0 || eqb n 1)
  pub energy : (h k n : ℕ) → h < 24 → k < 8 → book_holds s (with_energy b h k n) ≡ leb n 80000000000
  pub amount : (h k i : ℕ) (z : ℤ) → h < 24 → k < 8 → i < 5 → book_holds s (with_amount b h k i z) ≡ leb (nat_abs z) 100000000000
