-- The commitments of the ledger are what accepted calls took and moved in less what they released and moved out: each call keeps the balance.
-- Assumes nothing.
use mathlib.Core.Path.{◌≡◌, refl, ap, sym, ◌∙◌}
use mathlib.Core.Bool.{Bool, true, false, cond, ◌&&◌}
use mathlib.Core.List.{List, [], ◌∷◌, ◌++◌}
use Prim.Native.Nat.{ℕ, ◌+◌, ◌-◌, ◌≤◌}
use native.Mathlib.Nat.{add-zero}
use native.Mathlib.Omega.{arith}
use lib.Dec.{eqb}
use borrow.Author.Tests.{eqb-true, eqb-false, ne_eqb, ltb-false}
use Rattle.finite.proofs.Tests.{and_left, and_right}
use Rattle.sheet.specs.declared.Sheet.{Sheet}
use Rattle.ledger.specs.Ledger.{Call, take, release, move, settle, restate, void, Ledger, Reply, Outcome, at, with_held, always, release_conditions, move_conditions, conditions_of, start_of, effect_of, step, run}
use Rattle.ledger.specs.Reckoned.{counted, took_for, gave_for, tally, took, gave}
use Rattle.ledger.proofs.Told.{Clear, none, more, Told, refuses, accepts, step_told}

-- a commitment written is read at its hour and unit alone
pub held_at : (f : ℕ → ℕ → ℕ) (hour unit x h u : ℕ) → with_held f hour unit x h u ≡ cond (eqb h hour && eqb u unit) x (f h u)
held_at f hour unit x h u = by (eqb h hour) refl
  where
    by : (t : Bool) → eqb h hour ≡ t → cond t (at (f hour) unit x) (f h) u ≡ cond (t && eqb u unit) x (f h u)
    by true e = ap (λ (n : ℕ). cond (eqb u unit) x (f n u)) (sym (eqb-true h hour e))
    by false e = refl

-- a refused call counts for nothing
not_counted : (a : Reply) (b c : Bool) (kwh : ℕ) → 1 ≤ a.number → counted a b c kwh ≡ 0
not_counted a b c kwh h = simp (ne_eqb a.number 0 (λ e. omega arith))

module _ (h u : ℕ) (l : Ledger) where
  refused_took : (c : Call) (a : Reply) → 1 ≤ a.number → took_for h u c a ≡ 0
  refused_took (take hour unit kwh) a n = not_counted a (eqb h hour) (eqb u unit) kwh n
  refused_took (release hour unit kwh) a n = refl
  refused_took (move hour from to kwh) a n = grind (arith, not_counted a (eqb h hour) (eqb u to) kwh n)
  refused_took (settle text start) a n = refl
  refused_took (restate text start) a n = refl
  refused_took (void hour) a n = refl

  refused_gave : (c : Call) (a : Reply) → 1 ≤ a.number → gave_for h u c a ≡ 0
  refused_gave (take hour unit kwh) a n = refl
  refused_gave (release hour unit kwh) a n = not_counted a (eqb h hour) (eqb u unit) kwh n
  refused_gave (move hour from to kwh) a n = grind (arith, not_counted a (eqb h hour) (eqb u from) kwh n)
  refused_gave (settle text start) a n = refl
  refused_gave (restate text start) a n = refl
  refused_gave (void hour) a n = refl

  f : ℕ → ℕ → ℕ
  f = l.commitment

  -- what is written at the hour and unit, by whether they are those looked at
  same : (hour unit : ℕ) → (eqb h hour && eqb u unit) ≡ true → f hour unit ≡ f h u
  same hour unit = by (eqb h hour) refl (eqb u unit) refl
    where
      by : (t : Bool) → eqb h hour ≡ t → (s : Bool) → eqb u unit ≡ s → (t && s) ≡ true → f hour unit ≡ f h u
      by true e true d q = ap (λ (n : ℕ). f n unit) (sym (eqb-true h hour e)) ∙ ap (f h) (sym (eqb-true u unit d))
      by true e false d q = absurd (let z : ◌≡◌ {A = ℕ} 0 1 = cc in omega arith)
      by false e s d q = absurd (let z : ◌≡◌ {A = ℕ} 0 1 = cc in omega arith)

  taken : (hour unit kwh : ℕ) → with_held f hour unit (f hour unit + kwh) h u ≡ f h u + cond (eqb h hour && eqb u unit) kwh 0
  taken hour unit kwh = held_at f hour unit (f hour unit + kwh) h u ∙ by (eqb h hour && eqb u unit) refl
    where
      by : (t : Bool) → (eqb h hour && eqb u unit) ≡ t → cond t (f hour unit + kwh) (f h u) ≡ f h u + cond t kwh 0
      by true e = ap (λ (n : ℕ). n + kwh) (same hour unit e)
      by false e = omega arith

  released : (hour unit kwh : ℕ) → kwh ≤ f hour unit
      → with_held f hour unit (f hour unit - kwh) h u + cond (eqb h hour && eqb u unit) kwh 0 ≡ f h u
  released hour unit kwh l = ap (λ (n : ℕ). n + cond (eqb h hour && eqb u unit) kwh 0) (held_at f hour unit (f hour unit - kwh) h u) ∙ by (eqb h hour && eqb u unit) refl
    where
      by : (t : Bool) → (eqb h hour && eqb u unit) ≡ t → cond t (f hour unit - kwh) (f h u) + cond t kwh 0 ≡ f h u
      by true e = let s = same hour unit e in omega arith
      by false e = omega arith

  moved : (hour from to kwh : ℕ) → (from ≡ to → ⊥) → kwh ≤ f hour from
      → with_held (with_held f hour from (f hour from - kwh)) hour to (f hour to + kwh) h u + cond (eqb h hour && eqb u from) kwh 0
      ≡ f h u + cond (eqb h hour && eqb u to) kwh 0
  moved hour from to kwh apart le =
      ap (λ (n : ℕ). n + cond (eqb h hour && eqb u from) kwh 0) (held_at (with_held f hour from (f hour from - kwh)) hour to (f hour to + kwh) h u)
      ∙ by (eqb h hour && eqb u to) refl
    where
      -- the target is not the source
      other : (eqb h hour && eqb u to) ≡ true → (eqb h hour && eqb u from) ≡ false
      other e =
          let a : eqb u to ≡ true = and_right (eqb h hour) (eqb u to) e in
          let n : u ≡ from → ⊥ = λ q. apart (sym q ∙ eqb-true u to a) in
          simp (and_left (eqb h hour) (eqb u to) e, ne_eqb u from n)

      by : (t : Bool) → (eqb h hour && eqb u to) ≡ t
          → cond t (f hour to + kwh) (with_held f hour from (f hour from - kwh) h u) + cond (eqb h hour && eqb u from) kwh 0 ≡ f h u + cond t kwh 0
      by true e = rw (other e) (let s = same hour to e in omega arith)
      by false e = let r = released hour from kwh le in omega arith

-- what the tests of an accepted call tell
released_told : (sheet : Sheet) (room : ℕ) (l : Ledger) (hour unit kwh : ℕ) → Clear (always sheet room l ++ release_conditions sheet l hour unit kwh)
    → kwh ≤ l.commitment hour unit
released_told sheet room l hour unit kwh (more a (more b (more c (more d (more e (more f (more g none))))))) = ltb-false _ _ g

moved_told : (sheet : Sheet) (room : ℕ) (l : Ledger) (hour from to kwh : ℕ) → Clear (always sheet room l ++ move_conditions sheet l hour from to kwh)
    → (from ≡ to → ⊥) × (kwh ≤ l.commitment hour from)
moved_told sheet room l hour from to kwh (more a (more b (more c (more d (more e (more f (more g (more h (more i none))))))))) =
    (eqb-false _ _ e, ltb-false _ _ h)

module _ (sheet : Sheet) (room : ℕ) (l : Ledger) (h u : ℕ) where
  Balance : Call → Outcome → Type 0
  Balance c o = o.ledger.commitment h u + gave_for h u c o.reply ≡ l.commitment h u + took_for h u c o.reply

  effect_held : (c : Call) → Clear (conditions_of sheet room l c) → Balance c (effect_of sheet l c)
  unfolding Balance conditions_of effect_of f
  effect_held (take hour unit kwh) clear = add-zero _ ∙ taken h u l hour unit kwh
  effect_held (release hour unit kwh) clear = released h u l hour unit kwh (released_told sheet room l hour unit kwh clear) ∙ sym (add-zero _)
  effect_held (move hour from to kwh) clear =
      let t = moved_told sheet room l hour from to kwh clear in moved h u l hour from to kwh t.0 t.1
  effect_held (settle text start) clear = refl
  effect_held (restate text start) clear = refl
  effect_held (void hour) clear = refl

  -- one call keeps the balance
  step_held : (c : Call) → Balance c (step sheet room l c)
  unfolding Balance
  step_held c = by (step sheet room l c) (step_told sheet room l c)
    where
      by : (o : Outcome) → Told l (start_of c) (conditions_of sheet room l c) (effect_of sheet l c) o
          → o.ledger.commitment h u + gave_for h u c o.reply ≡ l.commitment h u + took_for h u c o.reply
      by o (refuses number line b e) =
          rw e (let a : Reply = record { number = number; line = line; posted = 0; place = start_of c } in
          omega (arith, refused_took h u l c a b, refused_gave h u l c a b))
      by o (accepts clear e) = rw e (effect_held c clear)

-- so do all
pub run_held : (sheet : Sheet) (room : ℕ) (h u : ℕ) (calls : List Call) (l : Ledger)
    → (run sheet room l calls).ledger.commitment h u + gave h u calls (run sheet room l calls).replies
    ≡ l.commitment h u + took h u calls (run sheet room l calls).replies
unfolding run tally Balance
run_held sheet room h u [] l = refl
run_held sheet room h u (c ∷ cs) l =
    omega (arith, step_held sheet room l h u c, run_held sheet room h u cs (step sheet room l c).ledger)
