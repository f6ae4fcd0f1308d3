-- One value of a sheet, of a unit or of a book that are not refused is replaced: every other test holds as before, so what is left is
-- the test of that value.
-- Assumes nothing.
use mathlib.Core.Path.{◌≡◌, sym, ◌∙◌, ap, subst}
use mathlib.Core.Bool.{Bool, true, ◌&&◌, ◌||◌}
use mathlib.Core.List.{List}
use Prim.Native.Nat.{ℕ, ◌<◌}
use native.Mathlib.Omega.{arith}
use lib.Dec.{leb, eqb}
use lib.IntN.{ℤ, pos}
use lib.ListN.{length, get_or, set}
use lib.Seq.{get_or-set_same, get_or-set_other}
use Rattle.finite.specs.Finite.{every}
use Rattle.finite.proofs.Tests.{and_left, and_right, every_at, every_all}
use Rattle.energy.specs.declared.HubKwh.{HubKwh}
use Rattle.energy.specs.declared.HubGrains.{HubGrains}
use Rattle.offer.specs.Offer.{past_offer, offer_holds}
use Rattle.sheet.specs.declared.UnitSheet.{UnitSheet}
use Rattle.sheet.specs.declared.Sheet.{Sheet}
use Rattle.sheet.specs.Limits.{most_own, most_cpf, most_units, most_kwh}
use Rattle.sheet.specs.Ranges.{between, past_unit, unit_at, offer_at, unit_holds, place_holds, units_hold, date_holds, rates_hold, cpf_holds, sheet_holds}
use Rattle.settlement.specs.declared.Amounts.{Amounts}
use Rattle.state.specs.declared.Book.{Book}
use Rattle.state.specs.Sizes.{entry_of}
use Rattle.state.specs.Book.{no_kwh, no_grains, past_amounts, amounts_at, Sized}
use Rattle.state.specs.Ranges.{most_amount, most_energy, within, limit_at, commitments_hold, marks_hold, energies_hold, items_hold, amounts_hold, book_holds}
use Rattle.bounds.specs.Anywhere.{with_cpf, with_unit, SheetBounds, UnitBounds, with_commitment, with_mark, with_energy, with_amount, BookBounds}
use Rattle.bounds.proofs.Changed.{every_one, every_set, and_first, and_second}

module _ (s : Sheet) (holds : sheet_holds s ≡ true) where
  abbrev head : Bool
  head = date_holds s.month s.day && rates_hold s.loss s.ceiling s.bar

  abbrev rest : Bool
  rest = (cpf_holds s.cpf && between 1 s.units most_units) && units_hold s.units s.unit

  head_holds : head ≡ true
  unfolding sheet_holds
  head_holds = and_left head rest holds

  rest_holds : rest ≡ true
  unfolding sheet_holds
  rest_holds = and_right head rest holds

  lines_hold : (cpf_holds s.cpf && between 1 s.units most_units) ≡ true
  lines_hold = and_left (cpf_holds s.cpf && between 1 s.units most_units) (units_hold s.units s.unit) rest_holds

  units_hold_lem : units_hold s.units s.unit ≡ true
  units_hold_lem = and_right (cpf_holds s.cpf && between 1 s.units most_units) (units_hold s.units s.unit) rest_holds

  cpf_anywhere : length s.cpf ≡ 24 → (h n : ℕ) → h < 24 → sheet_holds (with_cpf s h n) ≡ leb n 10000
  unfolding sheet_holds
  cpf_anywhere long h n l =
      let mask = between 1 s.units most_units in
      let plant = units_hold s.units s.unit in
      let changed = cpf_holds (set s.cpf h n) in
      and_second head ((changed && mask) && plant) head_holds
      ∙ (and_first (changed && mask) plant units_hold_lem
      ∙ (and_first changed mask (and_right (cpf_holds s.cpf) mask lines_hold)
      ∙ every_set 24 s.cpf 0 n (λ (m : ℕ). leb m most_cpf) h long l (and_left (cpf_holds s.cpf) mask lines_hold)))

  unit_anywhere : length s.unit ≡ 8 → (k : ℕ) (u : UnitSheet) → k < 8
      → sheet_holds (with_unit s k u) ≡ place_holds s.units k u
  unfolding sheet_holds
  unit_anywhere long k u l =
      let lines = cpf_holds s.cpf && between 1 s.units most_units in
      let changed = units_hold s.units (set s.unit k u) in
      and_second head (lines && changed) head_holds
      ∙ (and_second lines changed lines_hold
      ∙ (every_one 8 k (λ j. place_holds s.units j (unit_at (set s.unit k u) j)) l
      (λ j l' q.
      ap (λ (v : UnitSheet). place_holds s.units j v) (get_or-set_other s.unit k j u past_unit q)
      ∙ every_at 8 (λ j. place_holds s.units j (unit_at s.unit j)) units_hold_lem j l')
      ∙ ap (λ (v : UnitSheet). place_holds s.units k v)
      (get_or-set_same s.unit k u past_unit (subst (λ (m : ℕ). k < m) (sym long) l))))

  pub sheet_bounds : length s.cpf ≡ 24 → length s.unit ≡ 8 → SheetBounds s
  sheet_bounds cpfs units = record { cpf = cpf_anywhere cpfs; unit = unit_anywhere units }

pub unit_bounds : (u : UnitSheet) → unit_holds u ≡ true → length u.offers ≡ 24 → UnitBounds u
unfolding unit_holds
unit_bounds u holds long =
    let powers = leb u.own most_own && between 1 u.nominal.0 most_kwh in
    let monthly = leb u.monthly.0 most_kwh in
    let offers = every 24 (λ h. offer_holds (offer_at u h)) in
    let after : (monthly && offers) ≡ true = and_right powers (monthly && offers) holds in
    record {
      offer =
          λ h o l.
          and_second powers (monthly && every 24 (λ j. offer_holds (get_or (set u.offers h o) j past_offer)))
          (and_left powers (monthly && offers) holds)
          ∙ (and_second monthly (every 24 (λ j. offer_holds (get_or (set u.offers h o) j past_offer))) (and_left monthly offers after)
          ∙ every_set 24 u.offers past_offer o offer_holds h long l (and_right monthly offers after));
    }

module _ (s : Sheet) (b : Book) (sized : Sized b) (holds : book_holds s b ≡ true) where
  abbrev commitments : Bool
  commitments = commitments_hold s.units s.unit b.commitment

  abbrev marks : Bool
  marks = marks_hold b.mark

  abbrev energies : Bool
  energies = energies_hold b.energy

  abbrev amounts : Bool
  amounts = amounts_hold b.amounts

  first_half : (commitments && marks) ≡ true
  unfolding book_holds
  first_half = and_left (commitments && marks) (energies && amounts) holds

  second_half : (energies && amounts) ≡ true
  unfolding book_holds
  second_half = and_right (commitments && marks) (energies && amounts) holds

  -- the commitment of hour h and place k is within its limit
  abbrev fits : List HubKwh → ℕ → ℕ → Bool
  fits commitment k h = leb (get_or commitment (entry_of h k) no_kwh).0 (limit_at s h k).0

  commitment_anywhere : (h k n : ℕ) → h < 24 → k < 8 → book_holds s (with_commitment b h k n) ≡ leb n (limit_at s h k).0
  unfolding book_holds
  commitment_anywhere h k n lh lk =
      let x : HubKwh = record { 0 = n } in
      let after = set b.commitment (entry_of h k) x in
      let changed = commitments_hold s.units s.unit after in
      let before : (k' h' : ℕ) → k' < 8 → h' < 24 → fits b.commitment k' h' ≡ true =
      λ k' h' l l'. every_at 24 (fits b.commitment k')
      (every_at 8 (λ j. every 24 (fits b.commitment j)) (and_left commitments marks first_half) k' l) h' l' in
      let other : (k' h' : ℕ) → k' < 8 → h' < 24 → (entry_of h' k' ≡ entry_of h k → ⊥) → fits after k' h' ≡ true =
      λ k' h' l l' q.
      ap (λ (c : HubKwh). leb c.0 (limit_at s h' k').0) (get_or-set_other b.commitment (entry_of h k) (entry_of h' k') x no_kwh q)
      ∙ before k' h' l l' in
      and_first (changed && marks) (energies && amounts) second_half
      ∙ (and_first changed marks (and_right commitments marks first_half)
      ∙ (every_one 8 k (λ j. every 24 (fits after j)) lk
      (λ k' l q. every_all 24 (fits after k') (λ h' l'. other k' h' l l' (λ e. q (omega arith))))
      ∙ (every_one 24 h (fits after k) lh (λ h' l' q. other k h' lk l' (λ e. q (omega arith)))
      ∙ ap (λ (c : HubKwh). leb c.0 (limit_at s h k).0)
      (get_or-set_same b.commitment (entry_of h k) x no_kwh (omega (arith, sized.commitment))))))

  mark_anywhere : (h n : ℕ) → h < 24 → book_holds s (with_mark b h n) ≡ (eqb n 0 || eqb n 1)
  unfolding book_holds
  mark_anywhere h n l =
      let changed = marks_hold (set b.mark h n) in
      and_first (commitments && changed) (energies && amounts) second_half
      ∙ (and_second commitments changed (and_left commitments marks first_half)
      ∙ every_set 24 b.mark 0 n (λ (m : ℕ). eqb m 0 || eqb m 1) h sized.mark l (and_right commitments marks first_half))

  energy_anywhere : (h k n : ℕ) → h < 24 → k < 8 → book_holds s (with_energy b h k n) ≡ leb n 80000000000
  unfolding book_holds
  energy_anywhere h k n lh lk =
      let x : HubGrains = record { 0 = n } in
      let changed = energies_hold (set b.energy (entry_of h k) x) in
      let l : entry_of h k < 192 = omega arith in
      and_second (commitments && marks) (changed && amounts) first_half
      ∙ (and_first changed amounts (and_right energies amounts second_half)
      ∙ every_set 192 b.energy no_grains x (λ (e : HubGrains). leb e.0 most_energy) (entry_of h k) sized.energy l
      (and_left energies amounts second_half))

  amount_anywhere : (h k i : ℕ) (z : ℤ) → h < 24 → k < 8 → i < 5 → book_holds s (with_amount b h k i z) ≡ within z most_amount
  unfolding book_holds
  amount_anywhere h k i z lh lk li =
      let items = (amounts_at b h k).item in
      let x : Amounts = record { item = set items i z } in
      let changed = amounts_hold (set b.amounts (entry_of h k) x) in
      let held : amounts ≡ true = and_right energies amounts second_half in
      let l : entry_of h k < 192 = omega arith in
      and_second (commitments && marks) (energies && changed) first_half
      ∙ (and_second energies changed (and_left energies amounts second_half)
      ∙ (every_set 192 b.amounts past_amounts x items_hold (entry_of h k) sized.amounts l held
      ∙ every_set 5 items (pos 0) z (λ (y : ℤ). within y most_amount) i (sized.item h k lh lk) li
      (every_at 192 (λ j. items_hold (get_or b.amounts j past_amounts)) held (entry_of h k) l)))

  pub book_bounds : BookBounds s b
  book_bounds = record { commitment = commitment_anywhere; mark = mark_anywhere; energy = energy_anywhere; amount = amount_anywhere }
