-- Every record that the ledger keeps was read under a sheet that passes 9, and stands with commitments that its offers allow: a settle is
-- accepted only then, and the commitments of a standing hour do not change.
-- Assumes nothing.
use mathlib.Core.Path.{◌≡◌, ap, sym, ◌∙◌, subst}
use mathlib.Core.Bool.{true, false}
use mathlib.Core.List.{List, [], ◌∷◌, ◌++◌}
use Prim.Native.Nat.{ℕ, ◌+◌, ◌-◌, ◌≤◌, ◌<◌}
use native.Mathlib.Decide.{ℕ_discrete}
use native.Mathlib.Omega.{arith}
use borrow.Author.Tests.{leb-true, not-false, eq-eqb, ne_eqb}
use lib.Dec.{leb}
use Rattle.finite.specs.Finite.{every}
use Rattle.finite.proofs.Tests.{and_left, every_at}
use Rattle.units.specs.Units.{member_at}
use Rattle.units.proofs.Laws.{place_lt}
use Rattle.offer.proofs.Steps.{holds, last_most}
use Rattle.sheet.specs.declared.Sheet.{Sheet}
use Rattle.sheet.specs.Ranges.{sheet_holds, unit_at, offer_at}
use Rattle.sheet.proofs.InRange.{in_range_lem}
use Rattle.record.specs.declared.Record.{Record}
use Rattle.record.specs.InRange.{InRange}
use Rattle.ledger.specs.Ledger.{Call, take, release, move, settle, restate, void, Kept, none, kept, Ledger, Outcome, Condition, stands, at, with_held, last_offer, held_fits, ledger_fits, restated, given, always, conditions_of, start_of, effect_of, step, run}
use Rattle.ledger.proofs.Told.{Clear, none, more, Told, refuses, accepts, step_told}
use Rattle.ledger.proofs.Accepted.{Taken, record_told, take_open, release_open, move_open, apart}

-- a record that stands for an hour, under the hour's commitments by unit
pub record StandsFor (sheet : Sheet) (hour : ℕ) (r : Record) (f : ℕ → ℕ) : Type 0 where
  pub sheet_holds : sheet_holds sheet ≡ true
  pub range : InRange sheet.units r
  pub hour_is : r.hour ≡ hour
  pub committed : (k : ℕ) → member_at sheet.units k ≡ true → f (k + 1) ≤ 1000000

pub record Ready (sheet : Sheet) (l : Ledger) : Type 0 where
  pub each : (hour : ℕ) (r : Record) → l.standing hour ≡ kept r → StandsFor sheet hour r (l.commitment hour)

module _ (sheet : Sheet) (room : ℕ) where
  -- 12 keeps a commitment within its last offer
  pub fits_told : (l : Ledger) (cs : List Condition) → Clear (always sheet room l ++ cs) → ledger_fits sheet room l ≡ true
  fits_told l cs (more a (more b c)) = not-false (ledger_fits sheet room l) b

  pub held_most : (l : Ledger) → sheet_holds sheet ≡ true → ledger_fits sheet room l ≡ true → (h k : ℕ) → h < 24 → member_at sheet.units k ≡ true
      → l.commitment (h + 1) (k + 1) ≤ 1000000
  held_most l t fits h k b m =
      let place : k < 8 = place_lt sheet.units k m in
      let rows = and_left (every 24 (λ h. every 8 (held_fits sheet l h))) _ fits in
      let one = every_at 8 (held_fits sheet l h) (every_at 24 (λ h. every 8 (held_fits sheet l h)) rows h b) k place in
      let held : l.commitment (h + 1) (k + 1) ≤ last_offer sheet (h + 1) k = leb-true _ _ (member_row m one) in
      let e : h + 1 - 1 ≡ h = omega arith in
      let last : last_offer sheet (h + 1) k ≤ 1000000 =
      rw (last_offer, e) (last_most (offer_at (unit_at sheet.unit k) h) (holds (offer_at (unit_at sheet.unit k) h) (((in_range_lem sheet t).unit k place m).offers h b))) in
      omega arith
    where
      member_row : member_at sheet.units k ≡ true → held_fits sheet l h k ≡ true → leb (l.commitment (h + 1) (k + 1)) (last_offer sheet (h + 1) k) ≡ true
      member_row m e = sym (simp m) ∙ e

  changed_ready : (l : Ledger) (g : ℕ → ℕ → ℕ) (hour : ℕ) → stands (l.standing hour) ≡ false → ((h : ℕ) → (h ≡ hour → ⊥) → g h ≡ l.commitment h)
      → Ready sheet l → Ready sheet (record { commitment = g; standing = l.standing; postings = l.postings })
  changed_ready l g hour o same ready =
      record {
        each = λ h r e.
            let d : h ≡ hour → ⊥ = λ q. closed r (ap (λ (n : ℕ). stands (l.standing n)) (sym q) ∙ ap stands e) in
            subst (λ (f : ℕ → ℕ). StandsFor sheet h r f) (sym (same h d)) (ready.each h r e);
      }
    where
      closed : (r : Record) → stands (l.standing hour) ≡ true → ⊥
      closed r t = let z : ◌≡◌ {A = ℕ} 0 1 = cc in omega arith

  -- a record is kept for its own hour
  kept_ready : (l : Ledger) (hour place : ℕ) (new : Kept) → ((r : Record) → new ≡ kept r → StandsFor sheet hour r (l.commitment hour))
      → Ready sheet l → Ready sheet (restated sheet l hour new place).ledger
  kept_ready l hour place new stand ready = record { each = λ h r e. by h r e (ℕ_discrete h hour) }
    where
      by : (h : ℕ) (r : Record) → at l.standing hour new h ≡ kept r → Dec (h ≡ hour) → StandsFor sheet h r (l.commitment h)
      by h r e (yes q) =
          let n : new ≡ kept r = sym (simp (eq-eqb h hour q)) ∙ e in
          subst (λ (x : ℕ). StandsFor sheet x r (l.commitment x)) (sym q) (stand r n)
      by h r e (no d) = let n : l.standing h ≡ kept r = sym (simp (ne_eqb h hour d)) ∙ e in ready.each h r n

  pub taken_stands : (l : Ledger) (text : List ℕ) (start : ℕ) → Taken sheet text start → ledger_fits sheet room l ≡ true
      → (r : Record) → kept (given sheet text start).read ≡ kept r → StandsFor sheet (given sheet text start).read.hour r (l.commitment (given sheet text start).read.hour)
  taken_stands l text start t fits r e =
      let same : (given sheet text start).read ≡ r = cc in
      let hour = (given sheet text start).read.hour in
      let low = t.range.hour_least in
      let high = t.range.hour_most in
      let back : hour - 1 + 1 ≡ hour = omega arith in
      record {
        sheet_holds = t.holds;
        range = subst (λ (x : Record). InRange sheet.units x) same t.range;
        hour_is = ap (λ (x : Record). x.hour) (sym same);
        committed = λ k m. subst (λ (x : ℕ). l.commitment x (k + 1) ≤ 1000000) back (held_most l t.holds fits (hour - 1) k (omega arith) m);
      }

  effect_ready : (l : Ledger) (c : Call) → Clear (conditions_of sheet room l c) → Ready sheet l → Ready sheet (effect_of sheet l c).ledger
  unfolding conditions_of effect_of
  effect_ready l (take hour unit kwh) clear s =
      let f = l.commitment in
      changed_ready l (with_held f hour unit (f hour unit + kwh)) hour (take_open sheet room l hour unit kwh clear) (apart f hour unit (f hour unit + kwh)) s
  effect_ready l (release hour unit kwh) clear s =
      let f = l.commitment in
      changed_ready l (with_held f hour unit (f hour unit - kwh)) hour (release_open sheet room l hour unit kwh clear) (apart f hour unit (f hour unit - kwh)) s
  effect_ready l (move hour from to kwh) clear s =
      let f = l.commitment in
      let g = with_held f hour from (f hour from - kwh) in
      changed_ready l (with_held g hour to (f hour to + kwh)) hour (move_open sheet room l hour from to kwh clear)
      (λ h d. apart g hour to (f hour to + kwh) h d ∙ apart f hour from (f hour from - kwh) h d) s
  effect_ready l (settle text start) clear s =
      kept_ready l _ 0 _ (taken_stands l text start (record_told sheet room l text start _ clear) (fits_told l _ clear)) s
  effect_ready l (restate text start) clear s =
      kept_ready l _ 0 _ (taken_stands l text start (record_told sheet room l text start _ clear) (fits_told l _ clear)) s
  effect_ready l (void hour) clear s = kept_ready l hour 0 none (λ r e. absurd (let z : ◌≡◌ {A = ℕ} 0 1 = cc in omega arith)) s

  pub step_ready : (l : Ledger) (c : Call) → Ready sheet l → Ready sheet (step sheet room l c).ledger
  step_ready l c s = by (step sheet room l c) (step_told sheet room l c)
    where
      by : (o : Outcome) → Told l (start_of c) (conditions_of sheet room l c) (effect_of sheet l c) o → Ready sheet o.ledger
      by o (refuses number line b e) = rw e s
      by o (accepts clear e) = rw e (effect_ready l c clear s)

  pub run_ready : (calls : List Call) (l : Ledger) → Ready sheet l → Ready sheet (run sheet room l calls).ledger
  unfolding run
  run_ready [] l s = s
  run_ready (c ∷ cs) l s = run_ready cs (step sheet room l c).ledger (step_ready l c s)
