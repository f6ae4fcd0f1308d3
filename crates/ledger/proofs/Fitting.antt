-- Refusal 12 never holds on the ledger of a list of calls. A take and a move's target pass 22, and a release and a move's source only lessen;
-- a call that posts passes 42, and each posting is the difference of two amounts within ±10^11; energies and amounts are a standing record's.
-- Assumes nothing.
use mathlib.Core.Path.{◌≡◌, refl, ap, sym, ◌∙◌, subst}
use mathlib.Core.Bool.{Bool, true, false, cond, ◌&&◌}
use mathlib.Core.List.{List, [], ◌∷◌, ◌++◌}
use Prim.Native.Nat.{ℕ, zero, suc, ◌+◌, ◌-◌, ◌*◌, ◌≤◌, ◌<◌, min}
use native.Mathlib.Omega.{arith}
use borrow.Author.Tests.{le-leb, ltb-false, not-false, eqb-true, eq-eqb}
use lib.Dec.{leb, eqb}
use lib.IntN.{nat_abs, ◌-ℤ◌}
use lib.ListN.{length, length-append}
use Rattle.finite.specs.Finite.{every, tabulate}
use Rattle.finite.proofs.Tests.{and_left, and_right, and_both, every_all}
use Rattle.units.specs.Units.{is_member, member_at, unit_count}
use Rattle.units.proofs.Laws.{count_members}
use Rattle.sheet.specs.declared.Sheet.{Sheet}
use Rattle.sheet.specs.Ranges.{sheet_holds}
use Rattle.sheet.proofs.InRange.{in_range_lem}
use Rattle.formulas.proofs.Amounts.{nat_abs_sub}
use Rattle.settlement.proofs.Laws.{amount_most, energy_most}
use Rattle.postings.specs.declared.Posting.{Posting}
use Rattle.ledger.specs.Ledger.{Call, take, release, move, settle, restate, void, Kept, none, kept, Ledger, Outcome, Condition, empty_ledger, with_held, hour_held, last_offer, held_fits, amount_for, amount_in, energy_for, energy_of, postings_fit, ledger_fits, no_room, posts, restated, given, always, text_condition, take_conditions, release_conditions, move_conditions, record_conditions, void_conditions, conditions_of, start_of, effect_of, step, run}
use Rattle.ledger.proofs.Told.{Clear, none, more, Told, refuses, accepts, step_told}
use Rattle.ledger.proofs.Accepted.{clear_right, sheet_told, record_told}
use Rattle.ledger.proofs.Held.{held_at}
use Rattle.ledger.proofs.Lists.{posts_length}
use Rattle.ledger.proofs.Ready.{Ready, fits_told, taken_stands, step_ready}
use Rattle.ledger.proofs.Passed.{from_known, to_known}
use Rattle.ledger.proofs.Settled.{hour_ready, Kept-ready}
use Rattle.ledger.proofs.Whole.{empty_ready}

-- a commitment of an hour and unit: within the last offer, and 0 outside the plant
pub record Within (sheet : Sheet) (hour unit kwh : ℕ) : Type 0 where
  pub inside : is_member sheet.units unit ≡ true → kwh ≤ last_offer sheet hour (unit - 1)
  pub outside : is_member sheet.units unit ≡ false → kwh ≡ 0

pub record Fitting (sheet : Sheet) (room : ℕ) (l : Ledger) : Type 0 where
  pub held : (hour unit : ℕ) → Within sheet hour unit (l.commitment hour unit)
  pub in_room : length l.postings ≤ room
  pub few : length l.postings ≤ 100000
  pub posted : postings_fit l.postings ≡ true

-- a list of postings, from its parts
appended : (xs ys : List Posting) → postings_fit xs ≡ true → postings_fit ys ≡ true → postings_fit (xs ++ ys) ≡ true
unfolding postings_fit
appended [] ys a b = b
appended (x ∷ xs) ys a b =
    and_both _ _ (and_left (leb (nat_abs x.amount) 1000000000000) (postings_fit xs) a)
    (appended xs ys (and_right (leb (nat_abs x.amount) 1000000000000) (postings_fit xs) a) b)

tabulated : (n : ℕ) (f : ℕ → Posting) → ((i : ℕ) → i < n → nat_abs (f i).amount ≤ 1000000000000) → postings_fit (tabulate n f) ≡ true
unfolding postings_fit tabulate
tabulated zero f h = refl
tabulated (suc n) f h =
    appended (tabulate n f) (f n ∷ []) (tabulated n f (λ i l. h i (omega arith)))
    (and_both _ _ (le-leb (nat_abs (f n).amount) 1000000000000 (h n (omega arith))) refl)

module _ (sheet : Sheet) where
  -- the settlement's amounts and energies of an hour that stands, 0 of one that is open
  kept_amount : (hour : ℕ) (s : Kept) (f : ℕ → ℕ) → Kept-ready sheet hour s f → (k i : ℕ) → k < 8 → nat_abs (amount_for sheet s f k i) ≤ 100000000000
  kept_amount hour none f ready k i l = omega arith
  kept_amount hour (kept r) f ready k i l = amount_most sheet r (hour_held f) (hour_ready sheet hour r f (ready r refl)) k l i

  kept_energy : (hour : ℕ) (s : Kept) (f : ℕ → ℕ) → Kept-ready sheet hour s f → (k : ℕ) → k < 8 → energy_for sheet s f k ≤ 80000000000
  kept_energy hour none f ready k l = omega arith
  kept_energy hour (kept r) f ready k l = energy_most sheet r (hour_held f) (hour_ready sheet hour r f (ready r refl)) k l

  posts_fit : (hour : ℕ) (old new : Kept) (f : ℕ → ℕ) → Kept-ready sheet hour old f → Kept-ready sheet hour new f → (n : ℕ) → n ≤ 8
      → postings_fit (posts sheet hour old new f n) ≡ true
  unfolding posts postings_fit
  posts_fit hour old new f before after zero h = refl
  posts_fit hour old new f before after (suc n) h = by (member_at sheet.units n) (posts_fit hour old new f before after n (omega arith))
    where
      row : ℕ → Posting
      row i = record { hour = hour; unit = n + 1; item = i + 1; amount = amount_for sheet new f n i -ℤ amount_for sheet old f n i }

      five : postings_fit (tabulate 5 row) ≡ true
      five =
          tabulated 5 row
          (λ i l.
          let a = kept_amount hour new f after n i (omega arith) in
          let b = kept_amount hour old f before n i (omega arith) in
          omega (arith, nat_abs_sub (amount_for sheet new f n i) (amount_for sheet old f n i), a, b))

      by : (t : Bool) → postings_fit (posts sheet hour old new f n) ≡ true
          → postings_fit (cond t (posts sheet hour old new f n ++ tabulate 5 row) (posts sheet hour old new f n)) ≡ true
      by true r = appended (posts sheet hour old new f n) (tabulate 5 row) r five
      by false r = r

  -- another commitment of a unit of the plant, within its last offer
  written : (f : ℕ → ℕ → ℕ) → ((h u : ℕ) → Within sheet h u (f h u)) → (hour unit x : ℕ) → is_member sheet.units unit ≡ true
      → x ≤ last_offer sheet hour (unit - 1) → (h u : ℕ) → Within sheet h u (with_held f hour unit x h u)
  written f s hour unit x m le h u = rw (held_at f hour unit x h u) (by (eqb h hour && eqb u unit) refl)
    where
      here : Within sheet hour unit x
      here = record { inside = λ t. le; outside = λ o. absurd (let z : ◌≡◌ {A = ℕ} 0 1 = cc in omega arith) }

      by : (t : Bool) → (eqb h hour && eqb u unit) ≡ t → Within sheet h u (cond t x (f h u))
      by true e =
          let p : h ≡ hour = eqb-true h hour (and_left (eqb h hour) (eqb u unit) e) in
          let q : u ≡ unit = eqb-true u unit (and_right (eqb h hour) (eqb u unit) e) in
          subst (λ (n : ℕ). Within sheet n u x) (sym p) (subst (λ (n : ℕ). Within sheet hour n x) (sym q) here)
      by false e = s h u

module _ (sheet : Sheet) (room : ℕ) where
  -- what the tests of an accepted call tell
  take_told : (l : Ledger) (hour unit kwh : ℕ) → Clear (always sheet room l ++ take_conditions sheet l hour unit kwh)
      → (is_member sheet.units unit ≡ true) × (l.commitment hour unit + kwh ≤ last_offer sheet hour (unit - 1))
  take_told l hour unit kwh (more a (more b (more c (more d (more e (more f (more g none))))))) = (not-false _ d, ltb-false _ _ g)

  release_told : (l : Ledger) (hour unit kwh : ℕ) → Clear (always sheet room l ++ release_conditions sheet l hour unit kwh)
      → is_member sheet.units unit ≡ true
  release_told l hour unit kwh (more a (more b (more c (more d (more e (more f (more g none))))))) = not-false _ d

  move_told : (l : Ledger) (hour from to kwh : ℕ) → Clear (always sheet room l ++ move_conditions sheet l hour from to kwh)
      → (is_member sheet.units from ≡ true) × (is_member sheet.units to ≡ true) × (l.commitment hour to + kwh ≤ last_offer sheet hour (to - 1))
  move_told l hour from to kwh (more a (more b (more c (more d (more e (more f (more g (more h (more i none))))))))) =
      (from_known sheet.units from to d, to_known sheet.units from to d, ltb-false _ _ i)

  record_room : (l : Ledger) (text : List ℕ) (start : ℕ) (c : Condition)
      → let r = given sheet text start in
      Clear (always sheet room l ++ (text_condition r.answer ++ record_conditions sheet room l r.read c))
      → no_room sheet room l ≡ false
  record_room l text start c clear = by (clear_right (text_condition (given sheet text start).answer) _ (clear_right (always sheet room l) _ clear))
    where
      by : Clear (record_conditions sheet room l (given sheet text start).read c) → no_room sheet room l ≡ false
      by (more a (more b (more d (more e (more f none))))) = f

  void_room : (l : Ledger) (hour : ℕ) → Clear (always sheet room l ++ void_conditions sheet room l hour) → no_room sheet room l ≡ false
  void_room l hour (more a (more b (more c (more d (more e none))))) = e

  -- commitments alone change
  changed_fitting : (l : Ledger) (g : ℕ → ℕ → ℕ) → ((h u : ℕ) → Within sheet h u (g h u)) → Fitting sheet room l
      → Fitting sheet room (record { commitment = g; standing = l.standing; postings = l.postings })
  changed_fitting l g w s = record { held = w; in_room = s.in_room; few = s.few; posted = s.posted }

  -- five postings a unit are appended
  restated_fitting : (l : Ledger) (hour : ℕ) (new : Kept) (place : ℕ) → sheet_holds sheet ≡ true → no_room sheet room l ≡ false
      → Kept-ready sheet hour (l.standing hour) (l.commitment hour) → Kept-ready sheet hour new (l.commitment hour)
      → Fitting sheet room l → Fitting sheet room (restated sheet l hour new place).ledger
  restated_fitting l hour new place t free before after s =
      record {
        held = s.held;
        in_room = rw length-append (omega (arith, rows_count, enough, s.in_room, s.few));
        few = rw length-append (omega (arith, rows_count, enough, s.in_room, s.few));
        posted =
            appended l.postings (posts sheet hour (l.standing hour) new (l.commitment hour) 8) s.posted
            (posts_fit sheet hour (l.standing hour) new (l.commitment hour) before after 8 (omega arith));
      }
    where
      enough : 5 * unit_count sheet.units ≤ min room 100000 - length l.postings
      enough = ltb-false _ _ free

      rows_count : length (posts sheet hour (l.standing hour) new (l.commitment hour) 8) ≡ 5 * unit_count sheet.units
      rows_count =
          posts_length sheet hour (l.standing hour) new (l.commitment hour) 8 (omega arith)
          ∙ ap (λ (n : ℕ). 5 * n) (sym (count_members sheet.units (omega (arith, (in_range_lem sheet t).units_most))))

  effect_fitting : (l : Ledger) (c : Call) → Clear (conditions_of sheet room l c) → Ready sheet l → Fitting sheet room l
      → Fitting sheet room (effect_of sheet l c).ledger
  unfolding conditions_of effect_of
  effect_fitting l (take hour unit kwh) clear r s =
      let f = l.commitment in
      let t = take_told l hour unit kwh clear in
      changed_fitting l (with_held f hour unit (f hour unit + kwh)) (written sheet f s.held hour unit (f hour unit + kwh) t.0 t.1) s
  effect_fitting l (release hour unit kwh) clear r s =
      let f = l.commitment in
      let m = release_told l hour unit kwh clear in
      changed_fitting l (with_held f hour unit (f hour unit - kwh))
      (written sheet f s.held hour unit (f hour unit - kwh) m (omega (arith, (s.held hour unit).inside m))) s
  effect_fitting l (move hour from to kwh) clear r s =
      let f = l.commitment in
      let g = with_held f hour from (f hour from - kwh) in
      let t = move_told l hour from to kwh clear in
      changed_fitting l (with_held g hour to (f hour to + kwh))
      (written sheet g (written sheet f s.held hour from (f hour from - kwh) t.0 (omega (arith, (s.held hour from).inside t.0)))
      hour to (f hour to + kwh) t.1 t.2) s
  effect_fitting l (settle text start) clear r s =
      let t = record_told sheet room l text start _ clear in
      restated_fitting l _ _ 0 t.holds (record_room l text start _ clear) (r.each _)
      (taken_stands sheet room l text start t (fits_told sheet room l _ clear)) s
  effect_fitting l (restate text start) clear r s =
      let t = record_told sheet room l text start _ clear in
      restated_fitting l _ _ 0 t.holds (record_room l text start _ clear) (r.each _)
      (taken_stands sheet room l text start t (fits_told sheet room l _ clear)) s
  effect_fitting l (void hour) clear r s =
      restated_fitting l hour none 0 (sheet_told sheet room l _ clear) (void_room l hour clear) (r.each hour)
      (λ x e. absurd (let z : ◌≡◌ {A = ℕ} 0 1 = cc in omega arith)) s

  step_fitting : (l : Ledger) (c : Call) → Ready sheet l → Fitting sheet room l → Fitting sheet room (step sheet room l c).ledger
  step_fitting l c r s = by (step sheet room l c) (step_told sheet room l c)
    where
      by : (o : Outcome) → Told l (start_of c) (conditions_of sheet room l c) (effect_of sheet l c) o → Fitting sheet room o.ledger
      by o (refuses number line b e) = rw e s
      by o (accepts clear e) = rw e (effect_fitting l c clear r s)

  -- 12 by its parts
  held_fits_lem : (l : Ledger) → Fitting sheet room l → (h k : ℕ) → held_fits sheet l h k ≡ true
  unfolding member_at
  held_fits_lem l s h k = by (is_member sheet.units (k + 1)) refl
    where
      w : Within sheet (h + 1) (k + 1) (l.commitment (h + 1) (k + 1))
      w = s.held (h + 1) (k + 1)

      back : k + 1 - 1 ≡ k
      back = omega arith

      by : (t : Bool) → is_member sheet.units (k + 1) ≡ t
          → cond t (leb (l.commitment (h + 1) (k + 1)) (last_offer sheet (h + 1) k)) (eqb (l.commitment (h + 1) (k + 1)) 0) ≡ true
      by true m =
          le-leb (l.commitment (h + 1) (k + 1)) (last_offer sheet (h + 1) k)
          (subst (λ (n : ℕ). l.commitment (h + 1) (k + 1) ≤ last_offer sheet (h + 1) n) back (w.inside m))
      by false m = eq-eqb (l.commitment (h + 1) (k + 1)) 0 (w.outside m)

  fitting_fits : (l : Ledger) → Ready sheet l → Fitting sheet room l → ledger_fits sheet room l ≡ true
  fitting_fits l r s =
      and_both _ _ (every_all 24 (λ h. every 8 (held_fits sheet l h)) (λ h lh. every_all 8 (held_fits sheet l h) (λ k lk. held_fits_lem l s h k)))
      (and_both _ _ (and_both _ _ (le-leb (length l.postings) room s.in_room) (le-leb (length l.postings) 100000 s.few))
      (and_both _ _
      (and_both _ _
      (every_all 24 (λ h. every 8 (λ k. every 5 (λ i. leb (nat_abs (amount_in sheet l (h + 1) k i)) 100000000000)))
      (λ h lh. every_all 8 (λ k. every 5 (λ i. leb (nat_abs (amount_in sheet l (h + 1) k i)) 100000000000))
      (λ k lk. every_all 5 (λ i. leb (nat_abs (amount_in sheet l (h + 1) k i)) 100000000000)
      (λ i li. le-leb (nat_abs (amount_in sheet l (h + 1) k i)) 100000000000
      (kept_amount sheet (h + 1) (l.standing (h + 1)) (l.commitment (h + 1)) (r.each (h + 1)) k i lk)))))
      s.posted)
      (every_all 24 (λ h. every 8 (λ k. leb (energy_of sheet l (h + 1) k) 80000000000))
      (λ h lh. every_all 8 (λ k. leb (energy_of sheet l (h + 1) k) 80000000000)
      (λ k lk. le-leb (energy_of sheet l (h + 1) k) 80000000000
      (kept_energy sheet (h + 1) (l.standing (h + 1)) (l.commitment (h + 1)) (r.each (h + 1)) k lk))))))

  empty_fitting : Fitting sheet room empty_ledger
  unfolding postings_fit
  empty_fitting =
      record {
        held = λ hour unit. record { inside = λ m. omega arith; outside = λ o. refl };
        in_room = omega arith;
        few = omega arith;
        posted = refl;
      }

  from_fitting : (calls : List Call) (l : Ledger) → Ready sheet l → Fitting sheet room l
      → ledger_fits sheet room (run sheet room l calls).ledger ≡ true
  unfolding run
  from_fitting [] l r s = fitting_fits l r s
  from_fitting (c ∷ cs) l r s = from_fitting cs (step sheet room l c).ledger (step_ready sheet room l c r) (step_fitting l c r s)

  -- after every list of calls, whatever the sheet: under one that fails 9 the ledger stays empty
  pub run_fits : (calls : List Call) → ledger_fits sheet room (run sheet room empty_ledger calls).ledger ≡ true
  run_fits calls = from_fitting calls empty_ledger (empty_ready sheet) empty_fitting
