-- Refusal 12 is never met by what the calls write: the empty book is in its ranges, and a write of values in range keeps a book in them.
-- Assumes nothing.
use mathlib.Core.Path.{◌≡◌}
use mathlib.Core.Logic.{⊎_elim}
use Prim.Native.Nat.{ℕ, ◌≤◌, ◌<◌}
use native.Mathlib.Omega.{arith}
use lib.IntN.{nat_abs}
use Rattle.energy.specs.declared.HubKwh.{HubKwh}
use Rattle.sheet.specs.declared.Sheet.{Sheet}
use Rattle.settlement.specs.declared.HourResult.{HourResult}
use Rattle.units.proofs.Laws.{place_lt}
use Rattle.state.specs.declared.Book.{Book}
use Rattle.state.specs.Sizes.{hours, places}
use Rattle.state.specs.Book.{settled_mark, commitment_at, mark_at, item_of, hour_amounts, Sized, empty_book, no_result, with_commitment, with_hour}
use Rattle.state.specs.Ranges.{most_amount, most_energy, limit_at, AmountsWithin, EnergiesWithin}
use Rattle.state.proofs.Entries.{same_or_not}
use Rattle.state.proofs.Empty.{empty_commitment, empty_mark, empty_energy, empty_amount, none_energy, none_amount}
use Rattle.state.proofs.Writing.{hour_amount, commitment_same, commitment_other, commitment_mark, commitment_energy, commitment_amounts, hour_commitments_lem, mark_same, mark_other, energy_either, amounts_either}
use Rattle.state.proofs.InRange.{BookInRange}

pub empty_in_range : (s : Sheet) → BookInRange s empty_book
empty_in_range s =
    record {
      commitment = λ h k a l. rw (empty_commitment h k) (omega arith);
      mark = λ h a. rw (empty_mark h) (omega arith);
      energy = λ h k a l. rw (empty_energy h k) (omega arith);
      amount = λ h k i a l m. rw (empty_amount h k i a l) (omega arith);
    }

module _ (s : Sheet) (b : Book) (r : BookInRange s b) where
  module _ (h k : ℕ) (kwh : HubKwh) (size : Sized b) (a : h < hours) (l : k < places) (most : kwh.0 ≤ (limit_at s h k).0) where
    limited : (g j : ℕ) → g < hours → j < places → (commitment_at (with_commitment b h k kwh) g j).0 ≤ (limit_at s g j).0
    limited g j d m = ⊎_elim (λ (e : g ≡ h). ⊎_elim (same e) (λ apart. other (λ p q. apart q)) (same_or_not j k)) (λ apart. other (λ p q. apart p)) (same_or_not g h)
      where
        same : g ≡ h → j ≡ k → (commitment_at (with_commitment b h k kwh) g j).0 ≤ (limit_at s g j).0
        same e f = rw (e, f, commitment_same b h k kwh size a l) most

        other : (g ≡ h → j ≡ k → ⊥) → (commitment_at (with_commitment b h k kwh) g j).0 ≤ (limit_at s g j).0
        other apart = rw (commitment_other b h k kwh g j l m apart) (r.commitment g j d m)

    pub commitment_in_range : BookInRange s (with_commitment b h k kwh)
    commitment_in_range =
        record {
          commitment = limited;
          mark = rw (commitment_mark b h k kwh) r.mark;
          energy = rw (commitment_energy b h k kwh) r.energy;
          amount = rw (commitment_amounts b h k kwh) r.amount;
        }

  pub hour_in_range : (h mark units : ℕ) (new : HourResult) → Sized b → h < hours → mark ≤ settled_mark
      → EnergiesWithin units new.energy → AmountsWithin units new.amounts → BookInRange s (with_hour b h mark units new)
  hour_in_range h mark units new size a known energies amounts =
      record {
        commitment = λ g k d l. rw (hour_commitments_lem b h mark units new) (r.commitment g k d l);
        mark = marks;
        energy = λ g k d l. energy_either b h mark units new k l g d (λ x. x.0 ≤ most_energy) (r.energy g k d l) (energies k);
        amount = λ g k i d l m.
            amounts_either b h mark units new k l g d (λ x. nat_abs (item_of x i) ≤ most_amount) (r.amount g k i d l m) (λ u. amounts k u i m);
      }
    where
      marks : (g : ℕ) → g < hours → mark_at (with_hour b h mark units new) g ≤ settled_mark
      marks g d =
          ⊎_elim (λ (e : g ≡ h). rw (e, mark_same b h mark units new size a) known)
          (λ (apart : g ≡ h → ⊥). rw (mark_other b h mark units new g apart) (r.mark g d)) (same_or_not g h)

  -- an hour's amounts
  pub hour_within : (h units : ℕ) → h < hours → AmountsWithin units (hour_amounts b h)
  hour_within h units a k u i m =
      let l = place_lt units k u in rw (hour_amount b h k l) (r.amount h k i a l m)

-- what a void stores
pub none_within : (units : ℕ) → AmountsWithin units no_result.amounts
none_within units k u i m = rw (none_amount k i (place_lt units k u)) (omega arith)

pub none_energies : (units : ℕ) → EnergiesWithin units no_result.energy
none_energies units k u = rw (none_energy k) (omega arith)
