-- The book's part of refusal 12 and the facts it stands for: each part of the one is a field of the other, an entry by its hour and place.
-- Assumes nothing.
use mathlib.Core.Path.{◌≡◌, refl}
use mathlib.Core.Bool.{Bool, true, false, ◌&&◌, ◌||◌}
use Prim.Native.Nat.{ℕ, ◌/◌, ◌%◌, ◌≤◌, ◌<◌}
use native.Mathlib.Omega.{arith}
use borrow.Author.Tests.{leb-true, le-leb}
use lib.Dec.{leb, eqb}
use lib.IntN.{nat_abs}
use lib.ListN.{get_or}
use Rattle.finite.specs.Finite.{every}
use Rattle.finite.proofs.Tests.{and_left, and_right, and_both, every_at, every_all}
use Rattle.units.specs.Units.{member_at}
use Rattle.sheet.specs.declared.Sheet.{Sheet}
use Rattle.offer.specs.Offer.{last_quantity}
use Rattle.offer.proofs.Steps.{holds, last_most}
use Rattle.sheet.specs.Limits.{most_quantity}
use Rattle.sheet.specs.Ranges.{unit_at, offer_at}
use Rattle.sheet.proofs.InRange.{InRange}
use Rattle.state.specs.declared.Book.{Book}
use Rattle.state.specs.Sizes.{hours, places, items, entries, entry_of}
use Rattle.state.specs.Book.{no_kwh, no_grains, past_amounts, open_mark, settled_mark, commitment_at, mark_at, energy_at, item_of, amount_at}
use Rattle.state.specs.Ranges.{most_amount, most_energy, within, limit_of, limit_at, commitments_hold, marks_hold, energies_hold, amounts_hold, book_holds}
use Rattle.state.proofs.Entries.{entry_lt, entry_back}
use Rattle.state.proofs.Marks.{marked, mark_le}

-- the limit of a commitment
module _ (s : Sheet) (h k : ℕ) where
  pub limit_in : member_at s.units k ≡ true → limit_at s h k ≡ last_quantity (offer_at (unit_at s.unit k) h)
  unfolding limit_of
  limit_in m = rw m

  pub limit_outside : member_at s.units k ≡ false → limit_at s h k ≡ no_kwh
  unfolding limit_of
  limit_outside m = rw m

  pub limit_most : InRange s → h < hours → k < places → (limit_at s h k).0 ≤ most_quantity
  limit_most r a l = by (member_at s.units k) refl
    where
      by : (t : Bool) → member_at s.units k ≡ t → (limit_at s h k).0 ≤ most_quantity
      by true m = rw (limit_in m) (last_most (offer_at (unit_at s.unit k) h) (holds (offer_at (unit_at s.unit k) h) ((r.unit k l m).offers h a)))
      by false m = rw (limit_outside m) (omega arith)

pub record BookInRange (s : Sheet) (b : Book) : Type 0 where
  pub commitment : (h k : ℕ) → h < hours → k < places → (commitment_at b h k).0 ≤ (limit_at s h k).0
  pub mark : (h : ℕ) → h < hours → mark_at b h ≤ settled_mark
  pub energy : (h k : ℕ) → h < hours → k < places → (energy_at b h k).0 ≤ most_energy
  pub amount : (h k i : ℕ) → h < hours → k < places → i < items → nat_abs (amount_at b h k i) ≤ most_amount

module _ (s : Sheet) (b : Book) where
  abbrev commitment_test : ℕ → ℕ → Bool
  commitment_test k h = leb (commitment_at b h k).0 (limit_at s h k).0

  abbrev mark_test : ℕ → Bool
  mark_test h = eqb (mark_at b h) open_mark || eqb (mark_at b h) settled_mark

  abbrev energy_test : ℕ → Bool
  energy_test j = leb (get_or b.energy j no_grains).0 most_energy

  abbrev item_test : ℕ → ℕ → Bool
  item_test j i = within (item_of (get_or b.amounts j past_amounts) i) most_amount

  pub book_in_range : book_holds s b ≡ true → BookInRange s b
  unfolding book_holds
  book_in_range t =
      let commitments = every places (λ k. every hours (commitment_test k)) in
      let marks = every hours mark_test in
      let energies = every entries energy_test in
      let amounts = every entries (λ j. every items (item_test j)) in
      let first = and_left (commitments && marks) (energies && amounts) t in
      let second = and_right (commitments && marks) (energies && amounts) t in
      record {
        commitment = λ h k a l.
            leb-true _ _ (every_at hours (commitment_test k)
            (every_at places (λ k. every hours (commitment_test k)) (and_left commitments marks first) k l) h a);
        mark = λ h a. mark_le (mark_at b h) (every_at hours mark_test (and_right commitments marks first) h a);
        energy = λ h k a l. leb-true _ _ (every_at entries energy_test (and_left energies amounts second) (entry_of h k) (entry_lt h k a l));
        amount = λ h k i a l m.
            leb-true _ _ (every_at items (item_test (entry_of h k))
            (every_at entries (λ j. every items (item_test j)) (and_right energies amounts second) (entry_of h k) (entry_lt h k a l)) i m);
      }

  module _ (r : BookInRange s b) where
    energy_holds : (j : ℕ) → j < entries → energy_test j ≡ true
    energy_holds j l = le-leb _ _ (rw (entry_back j) at (r.energy (j / places) (j % places) (omega arith) (omega arith)))

    item_holds : (j i : ℕ) → j < entries → i < items → item_test j i ≡ true
    item_holds j i l m = le-leb _ _ (rw (entry_back j) at (r.amount (j / places) (j % places) i (omega arith) (omega arith) m))

    pub book_holds_back : book_holds s b ≡ true
    unfolding book_holds
    book_holds_back =
        and_both (commitments_hold s.units s.unit b.commitment && marks_hold b.mark)
        (energies_hold b.energy && amounts_hold b.amounts)
        (and_both (commitments_hold s.units s.unit b.commitment) (marks_hold b.mark)
        (every_all places (λ k. every hours (commitment_test k))
        (λ k l. every_all hours (commitment_test k) (λ h a. le-leb _ _ (r.commitment h k a l))))
        (every_all hours mark_test (λ h a. marked (mark_at b h) (r.mark h a))))
        (and_both (energies_hold b.energy) (amounts_hold b.amounts) (every_all entries energy_test energy_holds)
        (every_all entries (λ j. every items (item_test j)) (λ j l. every_all items (item_test j) (λ i m. item_holds j i l m))))
