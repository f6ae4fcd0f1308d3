-- What a write changes in the book, and what it leaves: the other hours, the other places, the other fields, and the number of entries.
-- Assumes nothing.
use mathlib.Core.Path.{◌≡◌, refl, sym, ap, ◌∙◌, subst}
use mathlib.Core.Logic.{⊎_elim}
use mathlib.Core.Bool.{Bool, true, false, cond, ◌&&◌}
use mathlib.Core.List.{List}
use Prim.Native.Nat.{ℕ, ◌<◌}
use native.Mathlib.Omega.{arith}
use borrow.Author.Tests.{eq-eqb, ne_eqb}
use lib.Dec.{eqb}
use lib.ListN.{length, get_or, set, length-set}
use lib.Seq.{get_or-set_same, get_or-set_other, ext_get_or}
use Rattle.finite.proofs.Tables.{length_tabulate, get_d_tabulate, tabulate_same}
use Rattle.energy.specs.declared.HubKwh.{HubKwh}
use Rattle.energy.specs.declared.HubGrains.{HubGrains}
use Rattle.units.specs.Units.{member_at}
use Rattle.settlement.specs.declared.Amounts.{Amounts}
use Rattle.settlement.specs.declared.HourResult.{HourResult}
use Rattle.state.specs.declared.Book.{Book}
use Rattle.state.specs.Sizes.{hours, places, items, entry_of}
use Rattle.state.specs.Book.{no_kwh, no_grains, past_amounts, commitment_at, mark_at, energy_at, amounts_at, item_of, amount_at, hour_commitments, hour_amounts, Sized, with_commitment, stored, with_hour}
use Rattle.state.proofs.Entries.{and_false, same_or_not, entry_lt, stored_at, length_stored}

-- an hour's row
module _ (b : Book) (h k : ℕ) (l : k < places) where
  pub hour_commitment : get_or (hour_commitments b h) k no_kwh ≡ commitment_at b h k
  unfolding hour_commitments
  hour_commitment = get_d_tabulate places (commitment_at b h) k no_kwh l

  pub hour_amount : get_or (hour_amounts b h) k past_amounts ≡ amounts_at b h k
  unfolding hour_amounts
  hour_amount = get_d_tabulate places (amounts_at b h) k past_amounts l

module _ (b : Book) (h : ℕ) where
  pub row_length : length (hour_commitments b h) ≡ places
  unfolding hour_commitments
  row_length = length_tabulate places (commitment_at b h)

  pub amounts_row_length : length (hour_amounts b h) ≡ places
  unfolding hour_amounts
  amounts_row_length = length_tabulate places (amounts_at b h)

-- a commitment
module _ (b : Book) (h k : ℕ) (kwh : HubKwh) where
  pub commitment_same : Sized b → h < hours → k < places → commitment_at (with_commitment b h k kwh) h k ≡ kwh
  unfolding with_commitment
  commitment_same s a l =
      get_or-set_same b.commitment (entry_of h k) kwh no_kwh (omega (arith, s.commitment, entry_lt h k a l))

  -- another hour or another place
  pub commitment_other : (g j : ℕ) → k < places → j < places → (g ≡ h → j ≡ k → ⊥)
      → commitment_at (with_commitment b h k kwh) g j ≡ commitment_at b g j
  unfolding with_commitment
  commitment_other g j l m apart =
      get_or-set_other b.commitment (entry_of h k) (entry_of g j) kwh no_kwh
      (λ e. let p : g ≡ h = omega arith in let q : j ≡ k = omega arith in apart p q)

  pub commitment_mark : (with_commitment b h k kwh).mark ≡ b.mark
  unfolding with_commitment
  commitment_mark = refl

  pub commitment_energy : (with_commitment b h k kwh).energy ≡ b.energy
  unfolding with_commitment
  commitment_energy = refl

  pub commitment_amounts : (with_commitment b h k kwh).amounts ≡ b.amounts
  unfolding with_commitment
  commitment_amounts = refl

  pub commitment_sized : Sized b → Sized (with_commitment b h k kwh)
  unfolding with_commitment
  commitment_sized s =
      record {
        commitment = length-set b.commitment (entry_of h k) kwh ∙ s.commitment;
        mark = s.mark;
        energy = s.energy;
        amounts = s.amounts;
        item = s.item;
      }

-- an hour's row after another commitment: as it was in another hour, and with the one place set in that hour
module _ (b : Book) (h k : ℕ) (kwh : HubKwh) (l : k < places) where
  pub row_other : (g : ℕ) → (g ≡ h → ⊥) → hour_commitments (with_commitment b h k kwh) g ≡ hour_commitments b g
  unfolding hour_commitments
  row_other g apart =
      tabulate_same places (commitment_at (with_commitment b h k kwh) g) (commitment_at b g)
      (λ j m. commitment_other b h k kwh g j l m (λ e f. apart e))

  module _ (s : Sized b) (a : h < hours) where
    row_entry : (j : ℕ) → j < places → commitment_at (with_commitment b h k kwh) h j ≡ get_or (set (hour_commitments b h) k kwh) j no_kwh
    row_entry j m =
        ⊎_elim
        (λ (e : j ≡ k).
        rw e
        (commitment_same b h k kwh s a l ∙ sym (get_or-set_same (hour_commitments b h) k kwh no_kwh (omega (arith, row_length b h)))))
        (λ (apart : j ≡ k → ⊥).
        commitment_other b h k kwh h j l m (λ e f. apart f)
        ∙ sym (hour_commitment b h j m)
        ∙ sym (get_or-set_other (hour_commitments b h) k j kwh no_kwh apart))
        (same_or_not j k)

    pub row_same : hour_commitments (with_commitment b h k kwh) h ≡ set (hour_commitments b h) k kwh
    row_same =
        let c = with_commitment b h k kwh in
        ext_get_or no_kwh (hour_commitments c h) (set (hour_commitments b h) k kwh)
        (row_length c h ∙ sym (row_length b h) ∙ sym (length-set (hour_commitments b h) k kwh))
        (λ j m. let n : j < places = omega (arith, row_length c h) in hour_commitment c h j n ∙ row_entry j n)

-- an entry of an hour's units: replaced in that hour and in the plant, and else as it was
module _ {A : Type 0} (none : A) (h units : ℕ) (new old : List A) (k : ℕ) (l : k < places) where
  entry_in : h < hours → member_at units k ≡ true → get_or (stored none h units new old) (entry_of h k) none ≡ get_or new k none
  entry_in a m = stored_at none h units new old h k a l ∙ rw (m, eq-eqb h h refl)

  entry_outside : (g : ℕ) → g < hours → member_at units k ≡ false
      → get_or (stored none h units new old) (entry_of g k) none ≡ get_or old (entry_of g k) none
  entry_outside g a m = stored_at none h units new old g k a l ∙ rw m

  entry_other : (g : ℕ) → g < hours → (g ≡ h → ⊥)
      → get_or (stored none h units new old) (entry_of g k) none ≡ get_or old (entry_of g k) none
  entry_other g a apart =
      stored_at none h units new old g k a l ∙ rw (ne_eqb g h apart, and_false (member_at units k))

either : {A : Type 0} (P : A → Type 0) {x y : A} (m e : Bool) → P y → (m ≡ true → P x) → P (cond (m && e) x y)
either P true true old new = new refl
either P true false old new = old
either P false e old new = old

-- an hour
module _ (b : Book) (h mark units : ℕ) (r : HourResult) where
  pub hour_commitments_lem : (with_hour b h mark units r).commitment ≡ b.commitment
  unfolding with_hour
  hour_commitments_lem = refl

  pub hour_row : (g : ℕ) → hour_commitments (with_hour b h mark units r) g ≡ hour_commitments b g
  unfolding hour_commitments with_hour
  hour_row g = refl

  pub mark_same : Sized b → h < hours → mark_at (with_hour b h mark units r) h ≡ mark
  unfolding with_hour
  mark_same s a = get_or-set_same b.mark h mark 0 (omega (arith, s.mark))

  pub mark_other : (g : ℕ) → (g ≡ h → ⊥) → mark_at (with_hour b h mark units r) g ≡ mark_at b g
  unfolding with_hour
  mark_other g apart = get_or-set_other b.mark h g mark 0 apart

  module _ (k : ℕ) (l : k < places) where
    -- a unit of the plant in that hour
    pub energy_in : h < hours → member_at units k ≡ true
        → energy_at (with_hour b h mark units r) h k ≡ get_or r.energy k no_grains
    unfolding with_hour
    energy_in = entry_in no_grains h units r.energy b.energy k l

    pub amounts_in : h < hours → member_at units k ≡ true
        → amounts_at (with_hour b h mark units r) h k ≡ get_or r.amounts k past_amounts
    unfolding with_hour
    amounts_in = entry_in past_amounts h units r.amounts b.amounts k l

    pub amount_in_lem : (i : ℕ) → h < hours → member_at units k ≡ true
        → amount_at (with_hour b h mark units r) h k i ≡ item_of (get_or r.amounts k past_amounts) i
    amount_in_lem i a m = ap (λ (x : Amounts). item_of x i) (amounts_in a m)

    module _ (g : ℕ) (a : g < hours) where
      -- a unit outside the plant
      pub energy_outside : member_at units k ≡ false → energy_at (with_hour b h mark units r) g k ≡ energy_at b g k
      unfolding with_hour
      energy_outside = entry_outside no_grains h units r.energy b.energy k l g a

      pub amounts_outside : member_at units k ≡ false → amounts_at (with_hour b h mark units r) g k ≡ amounts_at b g k
      unfolding with_hour
      amounts_outside = entry_outside past_amounts h units r.amounts b.amounts k l g a

      pub amount_outside : (i : ℕ) → member_at units k ≡ false
          → amount_at (with_hour b h mark units r) g k i ≡ amount_at b g k i
      amount_outside i m = ap (λ (x : Amounts). item_of x i) (amounts_outside m)

      -- another hour
      pub energy_other : (g ≡ h → ⊥) → energy_at (with_hour b h mark units r) g k ≡ energy_at b g k
      unfolding with_hour
      energy_other = entry_other no_grains h units r.energy b.energy k l g a

      pub amounts_other : (g ≡ h → ⊥) → amounts_at (with_hour b h mark units r) g k ≡ amounts_at b g k
      unfolding with_hour
      amounts_other = entry_other past_amounts h units r.amounts b.amounts k l g a

      pub amount_other : (i : ℕ) → (g ≡ h → ⊥) → amount_at (with_hour b h mark units r) g k i ≡ amount_at b g k i
      amount_other i apart = ap (λ (x : Amounts). item_of x i) (amounts_other apart)

      -- any hour and place
      pub energy_at_lem : energy_at (with_hour b h mark units r) g k
          ≡ cond (member_at units k && eqb g h) (get_or r.energy k no_grains) (energy_at b g k)
      unfolding with_hour
      energy_at_lem = stored_at no_grains h units r.energy b.energy g k a l

      pub amounts_at_lem : amounts_at (with_hour b h mark units r) g k
          ≡ cond (member_at units k && eqb g h) (get_or r.amounts k past_amounts) (amounts_at b g k)
      unfolding with_hour
      amounts_at_lem = stored_at past_amounts h units r.amounts b.amounts g k a l

      -- what holds of the old entry, and of the new one of a unit of the plant, holds of the entry
      pub energy_either : (P : HubGrains → Type 0)
          → P (energy_at b g k) → (member_at units k ≡ true → P (get_or r.energy k no_grains)) → P (energy_at (with_hour b h mark units r) g k)
      energy_either P old new = subst P (sym energy_at_lem) (either P (member_at units k) (eqb g h) old new)

      pub amounts_either : (P : Amounts → Type 0)
          → P (amounts_at b g k) → (member_at units k ≡ true → P (get_or r.amounts k past_amounts)) → P (amounts_at (with_hour b h mark units r) g k)
      amounts_either P old new = subst P (sym amounts_at_lem) (either P (member_at units k) (eqb g h) old new)

  pub amounts_row_other : (g : ℕ) → g < hours → (g ≡ h → ⊥) → hour_amounts (with_hour b h mark units r) g ≡ hour_amounts b g
  unfolding hour_amounts
  amounts_row_other g a apart =
      tabulate_same places (amounts_at (with_hour b h mark units r) g) (amounts_at b g) (λ k l. amounts_other k l g a apart)

  pub hour_sized : Sized b → ((k : ℕ) → k < places → length (get_or r.amounts k past_amounts).item ≡ items)
      → Sized (with_hour b h mark units r)
  unfolding with_hour
  hour_sized s five =
      record {
        commitment = s.commitment;
        mark = length-set b.mark h mark ∙ s.mark;
        energy = length_stored no_grains h units r.energy b.energy;
        amounts = length_stored past_amounts h units r.amounts b.amounts;
        item = λ g k a l. amounts_either k l g a (λ x. length x.item ≡ items) (s.item g k a l) (λ m. five k l);
      }
