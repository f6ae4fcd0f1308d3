-- Settle, restate and void on a book and a journal that agree with a ledger: the hour's energies and amounts become the record's, or 0, and
-- the differences are posted after the count.
-- Assumes nothing.
use mathlib.Core.Path.{◌≡◌, refl, ap, sym, ◌∙◌}
use mathlib.Core.Bool.{Bool, true, false}
use mathlib.Core.List.{List, ◌++◌}
use Prim.Native.Nat.{ℕ, ◌+◌, ◌-◌, ◌*◌, ◌≤◌, ◌<◌, min}
use native.Mathlib.Decide.{ℕ_discrete}
use native.Mathlib.Omega.{arith}
use borrow.Author.Tests.{eq-eqb, ne_eqb}
use lib.ListN.{length, get_or, take, drop, length-append}
use lib.Seq.{paste}
use Rattle.energy.specs.declared.HubKwh.{HubKwh}
use Rattle.energy.specs.declared.HubGrains.{HubGrains}
use Rattle.units.specs.Units.{member_at, unit_count}
use Rattle.units.proofs.Laws.{count_members}
use Rattle.sheet.specs.declared.Sheet.{Sheet}
use Rattle.settlement.specs.declared.Amounts.{Amounts}
use Rattle.settlement.specs.declared.HourResult.{HourResult}
use Rattle.state.specs.declared.Book.{Book}
use Rattle.state.specs.Sizes.{entry_of}
use Rattle.state.specs.Book.{mark_at, energy_at, amount_at as stored_at, item_of, no_kwh, no_grains, past_amounts, hour_amounts, with_hour}
use Rattle.state.proofs.Writing.{hour_amount, hour_commitments_lem, mark_same, mark_other, energy_in, amount_in_lem, energy_outside, amount_outside, energy_other, amount_other, hour_sized}
use Rattle.postings.specs.declared.Posting.{Posting}
use Rattle.postings.specs.Plan.{postings_of, padded, plan_of}
use Rattle.ledger.specs.Ledger.{Kept, Ledger, Reply, at, energy_for, amount_for, posts, restated}
use Rattle.ledger.specs.Calls.{State, posted_with}
use Rattle.ledger.specs.Agrees.{mark_of, Agrees}
use Rattle.ledger.proofs.Follow.{after, Follows}
use Rattle.ledger.proofs.Settled.{Kept-ready, outside_energy, outside_amount}
use Rattle.ledger.proofs.Lists.{posts_same, posts_length, pasted_length, pasted_entries, pasted_free}

module _ (sheet : Sheet) (room : ℕ) (st : State) (l : Ledger) (a : Agrees sheet room st l) (hour : ℕ) (low : 1 ≤ hour) (high : hour ≤ 24)
    (small : sheet.units < 256) (new : Kept) (result : HourResult)
    (old_ready : Kept-ready sheet hour (l.standing hour) (l.commitment hour)) (new-ready : Kept-ready sheet hour new (l.commitment hour))
    (energies : (k : ℕ) → k < 8 → member_at sheet.units k ≡ true → (get_or result.energy k no_grains).0 ≡ energy_for sheet new (l.commitment hour) k)
    (amounts : (k i : ℕ) → k < 8 → i < 5 → member_at sheet.units k ≡ true → item_of (get_or result.amounts k past_amounts) i ≡ amount_for sheet new (l.commitment hour) k i)
    (five : (k : ℕ) → k < 8 → length (get_or result.amounts k past_amounts).item ≡ 5)
    (free : 5 * unit_count sheet.units ≤ min room 100000 - st.count) where
  h₀ : ℕ
  h₀ = hour - 1

  back : hour - 1 + 1 ≡ hour
  back = omega arith

  rows : List Posting
  rows = posts sheet hour (l.standing hour) new (l.commitment hour) 8

  -- the book's own postings are the ledger's
  rows_same : postings_of hour sheet.units (hour_amounts st.book (hour - 1)) result.amounts ≡ rows
  unfolding rows
  rows_same =
      posts_same sheet hour (l.standing hour) new (l.commitment hour) (hour_amounts st.book (hour - 1)) result.amounts
      (λ k i lk li. ap (λ (x : Amounts). item_of x i) (hour_amount st.book (hour - 1) k lk)
      ∙ (a.amounts (hour - 1) k i (omega arith) lk li ∙ ap (λ (h : ℕ). amount_for sheet (l.standing h) (l.commitment h) k i) back))
      amounts

  rows_count : length rows ≡ 5 * unit_count sheet.units
  unfolding rows
  rows_count = posts_length sheet hour (l.standing hour) new (l.commitment hour) 8 (omega arith) ∙ ap (λ (n : ℕ). 5 * n) (sym (count_members sheet.units small))

  room_enough : st.count + length rows ≤ length st.journal
  room_enough = omega (arith, rows_count, a.places_are, a.fits)

  -- the decision, with the ledger's rows in the place of the book's
  same_journal : (after st (posted_with sheet st.book hour (mark_of new) result 0 st.count)).journal ≡ paste st.journal st.count (padded rows) (length rows)
  unfolding plan_of
  same_journal =
      ap (λ (r : List Posting). paste st.journal st.count (padded r) (5 * unit_count sheet.units)) rows_same
      ∙ ap (paste st.journal st.count (padded rows)) (sym rows_count)

  book : Book
  book = with_hour st.book (hour - 1) (mark_of new) sheet.units result

  energy_now : (h k : ℕ) → h < 24 → k < 8 → (energy_at book h k).0 ≡ energy_for sheet (at l.standing hour new (h + 1)) (l.commitment (h + 1)) k
  unfolding book
  energy_now h k lh lk = by (ℕ_discrete (h + 1) hour) (member_at sheet.units k) refl
    where
      by : Dec (h + 1 ≡ hour) → (t : Bool) → member_at sheet.units k ≡ t
          → (energy_at (with_hour st.book (hour - 1) (mark_of new) sheet.units result) h k).0 ≡ energy_for sheet (at l.standing hour new (h + 1)) (l.commitment (h + 1)) k
      by (no d) t m =
          ap (λ (g : HubGrains). g.0) (energy_other st.book (hour - 1) (mark_of new) sheet.units result k lk h lh (λ e. d (omega arith)))
          ∙ (a.energies h k lh lk ∙ sym (simp (ne_eqb (h + 1) hour d)))
      by (yes e) true m =
          let p : h ≡ hour - 1 = omega arith in
          ap (λ (n : ℕ). (energy_at (with_hour st.book (hour - 1) (mark_of new) sheet.units result) n k).0) p
          ∙ (ap (λ (g : HubGrains). g.0) (energy_in st.book (hour - 1) (mark_of new) sheet.units result k lk (omega arith) m)
          ∙ (energies k lk m ∙ sym (simp (eq-eqb (h + 1) hour e) (ap (λ (n : ℕ). energy_for sheet new (l.commitment n) k) e))))
      by (yes e) false m =
          ap (λ (g : HubGrains). g.0) (energy_outside st.book (hour - 1) (mark_of new) sheet.units result k lk h lh m)
          ∙ (a.energies h k lh lk
          ∙ (ap (λ (n : ℕ). energy_for sheet (l.standing n) (l.commitment n) k) e
          ∙ (outside_energy sheet hour (l.commitment hour) (l.standing hour) old_ready k lk m
          ∙ sym (simp (eq-eqb (h + 1) hour e) (ap (λ (n : ℕ). energy_for sheet new (l.commitment n) k) e ∙ outside_energy sheet hour (l.commitment hour) new new-ready k lk m)))))

  amount_now : (h k i : ℕ) → h < 24 → k < 8 → i < 5 → stored_at book h k i ≡ amount_for sheet (at l.standing hour new (h + 1)) (l.commitment (h + 1)) k i
  unfolding book
  amount_now h k i lh lk li = by (ℕ_discrete (h + 1) hour) (member_at sheet.units k) refl
    where
      by : Dec (h + 1 ≡ hour) → (t : Bool) → member_at sheet.units k ≡ t
          → stored_at (with_hour st.book (hour - 1) (mark_of new) sheet.units result) h k i ≡ amount_for sheet (at l.standing hour new (h + 1)) (l.commitment (h + 1)) k i
      by (no d) t m =
          amount_other st.book (hour - 1) (mark_of new) sheet.units result k lk h lh i (λ e. d (omega arith))
          ∙ (a.amounts h k i lh lk li ∙ sym (simp (ne_eqb (h + 1) hour d)))
      by (yes e) true m =
          let p : h ≡ hour - 1 = omega arith in
          ap (λ (n : ℕ). stored_at (with_hour st.book (hour - 1) (mark_of new) sheet.units result) n k i) p
          ∙ (amount_in_lem st.book (hour - 1) (mark_of new) sheet.units result k lk i (omega arith) m
          ∙ (amounts k i lk li m ∙ sym (simp (eq-eqb (h + 1) hour e) (ap (λ (n : ℕ). amount_for sheet new (l.commitment n) k i) e))))
      by (yes e) false m =
          amount_outside st.book (hour - 1) (mark_of new) sheet.units result k lk h lh i m
          ∙ (a.amounts h k i lh lk li
          ∙ (ap (λ (n : ℕ). amount_for sheet (l.standing n) (l.commitment n) k i) e
          ∙ (outside_amount sheet hour (l.commitment hour) (l.standing hour) old_ready k i lk m
          ∙ sym (simp (eq-eqb (h + 1) hour e) (ap (λ (n : ℕ). amount_for sheet new (l.commitment n) k i) e ∙ outside_amount sheet hour (l.commitment hour) new new-ready k i lk m)))))

  mark_now : (h : ℕ) → h < 24 → mark_at book h ≡ mark_of (at l.standing hour new (h + 1))
  unfolding book
  mark_now h lh = by (ℕ_discrete (h + 1) hour)
    where
      by : Dec (h + 1 ≡ hour) → mark_at (with_hour st.book (hour - 1) (mark_of new) sheet.units result) h ≡ mark_of (at l.standing hour new (h + 1))
      by (yes e) =
          let p : h ≡ hour - 1 = omega arith in
          ap (mark_at (with_hour st.book (hour - 1) (mark_of new) sheet.units result)) p
          ∙ (mark_same st.book (hour - 1) (mark_of new) sheet.units result a.sized (omega arith) ∙ sym (simp (eq-eqb (h + 1) hour e)))
      by (no d) =
          mark_other st.book (hour - 1) (mark_of new) sheet.units result h (λ e. d (omega arith)) ∙ (a.marks h lh ∙ sym (simp (ne_eqb (h + 1) hour d)))

  pub posts_follow : (place : ℕ) → Follows sheet room st (posted_with sheet st.book hour (mark_of new) result place st.count) (restated sheet l hour new place)
  unfolding rows book
  posts_follow place =
      record {
        answers = ap {B = Reply} (λ (n : ℕ). record { number = 0; line = 0; posted = n; place = place }) (sym rows_count);
        agrees =
            record {
              sized = hour_sized st.book (hour - 1) (mark_of new) sheet.units result a.sized five;
              places_are = ap length same_journal ∙ (pasted_length st.journal rows st.count room_enough ∙ a.places_are);
              counted = rw length-append (omega (arith, a.counted, rows_count));
              fits = omega (arith, rows_count, a.fits);
              entries =
                  ap (λ (j : List Posting). take (st.count + 5 * unit_count sheet.units) j) same_journal
                  ∙ (ap (λ (n : ℕ). take (st.count + n) (paste st.journal st.count (padded rows) (length rows))) (sym rows_count)
                  ∙ (pasted_entries st.journal rows st.count room_enough ∙ ap (λ (p : List Posting). p ++ rows) a.entries));
              commitments = λ h k lh lk. ap (λ (c : List HubKwh). (get_or c (entry_of h k) no_kwh).0) (hour_commitments_lem st.book (hour - 1) (mark_of new) sheet.units result) ∙ a.commitments h k lh lk;
              marks = mark_now;
              energies = energy_now;
              amounts = amount_now;
            };
        onward = omega arith;
        free =
            ap (λ (j : List Posting). drop (st.count + 5 * unit_count sheet.units) j) same_journal
            ∙ (ap (λ (n : ℕ). drop (st.count + n) (paste st.journal st.count (padded rows) (length rows))) (sym rows_count)
            ∙ (pasted_free st.journal rows st.count room_enough ∙ ap (λ (n : ℕ). drop (st.count + n) st.journal) rows_count));
      }
