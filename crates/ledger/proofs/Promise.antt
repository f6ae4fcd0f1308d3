-- The promise about every list of calls: each field of Demand from the calls that follow the ledger, and from what the ledger's calls and
-- replies reckon up to.
-- Assumes nothing.
use Rattle.std.specs.Prelude.{Ok}
use mathlib.Core.Path.{◌≡◌, refl, ap, sym, ◌∙◌}
use mathlib.Core.Bool.{Bool, true, false}
use mathlib.Core.List.{List}
use Prim.Native.Nat.{ℕ, ◌+◌, ◌-◌, ◌≤◌, ◌<◌}
use native.Mathlib.Nat.{zero-add}
use native.Mathlib.Omega.{arith}
use borrow.Author.Tests.{leb-true}
use lib.Dec.{leb}
use lib.IntN.{ℤ}
use lib.ListN.{length, get_or, take}
use lib.Seq.{ext_get_or}
use Rattle.finite.specs.Finite.{tabulate}
use Rattle.finite.proofs.Tests.{and_left, and_right}
use Rattle.finite.proofs.Tables.{length_tabulate, get_d_tabulate, tabulate_same}
use Rattle.units.specs.Units.{is_member, member_at}
use Rattle.units.proofs.Laws.{member, place_lt}
use Rattle.energy.specs.declared.HubGrains.{HubGrains}
use Rattle.allocation.specs.Fill.{grains_at}
use Rattle.sheet.specs.declared.Sheet.{Sheet}
use Rattle.sheet.specs.Ranges.{sheet_holds}
use Rattle.record.specs.declared.Record.{Record}
use Rattle.settlement.specs.Hour.{hour_result}
use Rattle.settlement.specs.Charge.{ChargeNear}
use Rattle.settlement.proofs.Laws.{energy_length, hour_allocated, charge_near_exact}
use Rattle.state.specs.Book.{commitment_at, energy_at, amount_at, hour_commitments, no_grains}
use Rattle.postings.specs.declared.Posting.{Posting}
use Rattle.postings.specs.Journal.{posted_hold, total_of}
use Rattle.postings.proofs.Totals.{total_nothing}
use Rattle.ledger.specs.Ledger.{Call, void, Kept, kept, Ledger, Reply, empty_ledger, hour_held, energy_for, amount_for, amount_in, run}
use Rattle.ledger.specs.Reckoned.{accepted, took, gave, sum_z}
use Rattle.ledger.specs.Calls.{State, book_fits, ran_from, begun}
use Rattle.ledger.specs.Total.{total_by, item_of, total_decided, total_on}
use Rattle.ledger.specs.Agrees.{Agrees}
use Rattle.ledger.specs.Demand.{hour_energies, reckoned, standing, Demand}
use Rattle.ledger.proofs.Fits.{fits_same}
use Rattle.ledger.proofs.Fitting.{run_fits}
use Rattle.ledger.proofs.Held.{run_held}
use Rattle.ledger.proofs.Standing.{run_record}
use Rattle.ledger.proofs.Signed.{sum_z_same, sum_z_none}
use Rattle.ledger.proofs.Posted.{run_sums, sums_open, sums_close}
use Rattle.ledger.proofs.Ready.{Ready, run_ready}
use Rattle.ledger.proofs.Settled.{hour_ready}
use Rattle.ledger.proofs.Whole.{followed, empty_agrees, empty_ready, step_accepted, reply_of_lem}

-- the bound of a charge, by equal energies and amounts
near_as : (sheet : Sheet) (r : Record) (k : ℕ) {energy its-energy : HubGrains} {item its-item : ℤ} → energy ≡ its-energy → item ≡ its-item
    → ChargeNear sheet r k its-energy its-item → ChargeNear sheet r k energy item
near_as sheet r k e i near = rw (e, i) near

module _ (sheet : Sheet) (journal : List Posting) (calls : List Call) where
  room : ℕ
  room = length journal

  abbrev replies : List Reply
  replies = (ran_from sheet (begun journal) calls).replies

  abbrev st : State
  st = (ran_from sheet (begun journal) calls).state

  abbrev l : Ledger
  l = (run sheet (length journal) empty_ledger calls).ledger

  same : replies ≡ (run sheet (length journal) empty_ledger calls).replies
  same = (followed sheet (length journal) calls (begun journal) empty_ledger (empty_agrees sheet journal) (empty_ready sheet)).replies

  agree : Agrees sheet (length journal) st l
  agree = (followed sheet (length journal) calls (begun journal) empty_ledger (empty_agrees sheet journal) (empty_ready sheet)).agrees

  -- the ledger's commitments and records, reckoned from the calls and the replies
  held : (h u : ℕ) → l.commitment h u + gave h u calls replies ≡ took h u calls replies
  held h u = rw same (run_held sheet (length journal) h u calls empty_ledger ∙ zero-add _)

  stood : (h : ℕ) → l.standing h ≡ standing sheet calls replies h
  stood h = rw same (run_record sheet (length journal) h calls empty_ledger)

  less : (h u : ℕ) → l.commitment h u ≡ reckoned calls replies h u
  less h u = let e = held h u in omega arith

  ready : Ready sheet l
  ready = run_ready sheet (length journal) calls empty_ledger (empty_ready sheet)

  hour_energies_lem : (hour : ℕ) (r : Record) → 1 ≤ hour → hour ≤ 24 → l.standing hour ≡ kept r
      → hour_energies st.book (hour - 1) ≡ (hour_result sheet r (hour_held (l.commitment hour))).energy
  unfolding hour_energies
  hour_energies_lem hour r low high e =
      ext_get_or no_grains (tabulate 8 (energy_at st.book (hour - 1))) (hour_result sheet r (hour_held (l.commitment hour))).energy
      (length_tabulate 8 (energy_at st.book (hour - 1)) ∙ sym (energy_length sheet r (hour_held (l.commitment hour))))
      (λ k b. each k (omega (arith, length_tabulate 8 (energy_at st.book (hour - 1)))))
    where
      back : hour - 1 + 1 ≡ hour
      back = omega arith

      each : (k : ℕ) → k < 8 → get_or (tabulate 8 (energy_at st.book (hour - 1))) k no_grains ≡ get_or (hour_result sheet r (hour_held (l.commitment hour))).energy k no_grains
      each k b =
          let grains : (energy_at st.book (hour - 1) k).0 ≡ grains_at (hour_result sheet r (hour_held (l.commitment hour))).energy k =
          agree.energies (hour - 1) k (omega arith) b
          ∙ (ap (λ (n : ℕ). energy_for sheet (l.standing n) (l.commitment n) k) back ∙ ap (λ (s : Kept). energy_for sheet s (l.commitment hour) k) e) in
          get_d_tabulate 8 (energy_at st.book (hour - 1)) k no_grains b ∙ (λ i. record { 0 = grains i })

  unit_energy : (hour : ℕ) (r : Record) (k : ℕ) → 1 ≤ hour → hour ≤ 24 → l.standing hour ≡ kept r → k < 8
      → energy_at st.book (hour - 1) k ≡ get_or (hour_result sheet r (hour_held (l.commitment hour))).energy k no_grains
  unfolding hour_energies
  unit_energy hour r k low high e b =
      sym (get_d_tabulate 8 (energy_at st.book (hour - 1)) k no_grains b) ∙ ap (λ (g : List HubGrains). get_or g k no_grains) (hour_energies_lem hour r low high e)

  unit_amount : (hour : ℕ) (r : Record) (k i : ℕ) → 1 ≤ hour → hour ≤ 24 → l.standing hour ≡ kept r → k < 8 → i < 5
      → amount_at st.book (hour - 1) k i ≡ amount_for sheet (kept r) (l.commitment hour) k i
  unit_amount hour r k i low high e b c =
      let back : hour - 1 + 1 ≡ hour = omega arith in
      agree.amounts (hour - 1) k i (omega arith) b c
      ∙ (ap (λ (n : ℕ). amount_in sheet l n k i) back ∙ ap (λ (s : Kept). amount_for sheet s (l.commitment hour) k i) e)

  hour_held_lem : (hour : ℕ) → 1 ≤ hour → hour ≤ 24 → hour_commitments st.book (hour - 1) ≡ hour_held (l.commitment hour)
  unfolding hour_commitments
  hour_held_lem hour low high =
      tabulate_same 8 (commitment_at st.book (hour - 1)) (λ k. record { 0 = l.commitment hour (k + 1) })
      (λ k lk. let e : hour - 1 + 1 ≡ hour = omega arith in
      λ i. record { 0 = (agree.commitments (hour - 1) k (omega arith) lk ∙ ap (λ (n : ℕ). l.commitment n (k + 1)) e) i })

  posted : (k i : ℕ) → member_at sheet.units k ≡ true → i < 5
      → total_of (k + 1) (i + 1) (take st.count st.journal)
      ≡ sum_z 24 (λ h. amount_for sheet (standing sheet calls replies (h + 1)) (reckoned calls replies (h + 1)) k i)
  posted k i m b =
      ap (total_of (k + 1) (i + 1)) agree.entries
      ∙ (sums_open sheet (length journal) k i m b l (run_sums sheet (length journal) k i m b calls empty_ledger (sums_close sheet (length journal) k i m b empty_ledger (total_nothing (k + 1) (i + 1) ∙ sym (sum_z_none 24 (λ h. amount_in sheet empty_ledger (h + 1) k i) (λ h lh. refl)))))
      ∙ sum_z_same 24 (λ h. amount_in sheet l (h + 1) k i) (λ h. amount_for sheet (standing sheet calls replies (h + 1)) (reckoned calls replies (h + 1)) k i)
      (λ h lh. λ j. amount_for sheet (stood (h + 1) j) (λ u. less (h + 1) u j) k i))

  -- the sum is asked for only of a unit of the plant and one of the five items
  by_item : (a f t : Bool) (x y : ℤ) → (t ≡ true → x ≡ y) → total_by a f t x ≡ total_by a f t y
  unfolding total_by
  by_item false f t x y h = refl
  by_item true false t x y h = refl
  by_item true true false x y h = refl
  by_item true true true x y h = λ i. Ok (h refl i)

  of_item_lem : (unit item : ℕ) → item_of sheet unit item ≡ true
      → total_of unit item (take st.count st.journal)
      ≡ sum_z 24 (λ h. amount_for sheet (standing sheet calls replies (h + 1)) (reckoned calls replies (h + 1)) (unit - 1) (item - 1))
  unfolding member_at
  of_item_lem unit item t =
      let in-plant = and_left (is_member sheet.units unit) _ t in
      let listed = and_right (is_member sheet.units unit) _ t in
      let m = member sheet.units unit in-plant in
      let low = leb-true 1 item (and_left (leb 1 item) (leb item 5) listed) in
      let high = leb-true item 5 (and_right (leb 1 item) (leb item 5) listed) in
      let u : unit ≡ unit - 1 + 1 = omega (arith, m.least) in
      let i : item ≡ item - 1 + 1 = omega (arith, low) in
      (λ j. total_of (u j) (i j) (take st.count st.journal))
      ∙ posted (unit - 1) (item - 1) (ap (is_member sheet.units) (sym u) ∙ in-plant) (omega (arith, low, high))

  fits : book_fits sheet st.book st.count (length st.journal) (posted_hold (take st.count st.journal)) ≡ true
  fits = fits_same sheet (length journal) st l agree ∙ run_fits sheet (length journal) calls

  total : (unit item : ℕ)
      → total_on sheet st unit item
      ≡ total_by (sheet_holds sheet) true (item_of sheet unit item)
      (sum_z 24 (λ h. amount_for sheet (standing sheet calls replies (h + 1)) (reckoned calls replies (h + 1)) (unit - 1) (item - 1)))
  unfolding total_on total_decided
  total unit item =
      rw fits (by_item (sheet_holds sheet) true (item_of sheet unit item) _ _ (of_item_lem unit item))

  pub promise : Demand sheet journal calls (ran_from sheet (begun journal) calls).replies (ran_from sheet (begun journal) calls).state
  promise =
      record {
        answered = same;
        accepted_when = λ n h. rw same (ap accepted (reply_of_lem sheet (length journal) calls empty_ledger n (void 0) h) ∙ step_accepted sheet (length journal) _ _);
        agrees = agree;
        free_places = (followed sheet (length journal) calls (begun journal) empty_ledger (empty_agrees sheet journal) (empty_ready sheet)).free;
        commitments = λ hour unit a b c d.
            let x : hour - 1 + 1 ≡ hour = omega arith in
            let y : unit - 1 + 1 ≡ unit = omega arith in
            let z : (commitment_at st.book (hour - 1) (unit - 1)).0 ≡ l.commitment hour unit =
            agree.commitments (hour - 1) (unit - 1) (omega arith) (omega arith) ∙ (ap (λ (n : ℕ). l.commitment n (unit - 1 + 1)) x ∙ ap (l.commitment hour) y) in
            ap (λ (n : ℕ). n + gave hour unit calls replies) z ∙ held hour unit;
        energies = λ hour r low high e.
            let s : l.standing hour ≡ kept r = stood hour ∙ e in
            rw (hour_held_lem hour low high, hour_energies_lem hour r low high s)
            (hour_allocated sheet r (hour_held (l.commitment hour)) (hour_ready sheet hour r (l.commitment hour) (ready.each hour r s)));
        charges = λ hour r k low high e m.
            let s : l.standing hour ≡ kept r = stood hour ∙ e in
            let b = place_lt sheet.units k m in
            near_as sheet r k (unit_energy hour r k low high s b) (unit_amount hour r k 3 low high s b (omega arith))
            (charge_near_exact sheet r (hour_held (l.commitment hour)) (hour_ready sheet hour r (l.commitment hour) (ready.each hour r s)) k m);
        postings = posted;
        totals = total;
        in_ranges = fits;
      }
