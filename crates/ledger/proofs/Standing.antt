-- The record that the ledger keeps for an hour is the last accepted one that no accepted void follows: each call leaves what its reply says.
-- Assumes nothing.
use mathlib.Core.Path.{◌≡◌, refl, ap, ◌∙◌}
use mathlib.Core.List.{List, [], ◌∷◌}
use Prim.Native.Nat.{ℕ, ◌≤◌}
use native.Mathlib.Omega.{arith}
use borrow.Author.Tests.{ne_eqb}
use Rattle.sheet.specs.declared.Sheet.{Sheet}
use Rattle.ledger.specs.Ledger.{Call, take, release, move, settle, restate, void, Kept, Ledger, Reply, Outcome, conditions_of, start_of, effect_of, step, run}
use Rattle.ledger.specs.Reckoned.{record_after, last_from}
use Rattle.ledger.proofs.Told.{Told, refuses, accepts, step_told}

module _ (sheet : Sheet) (room h : ℕ) (l : Ledger) where
  k : Kept
  k = l.standing h

  refused_record : (c : Call) (a : Reply) → 1 ≤ a.number → k ≡ record_after sheet h k c a
  refused_record (take hour unit kwh) a n = refl
  refused_record (release hour unit kwh) a n = refl
  refused_record (move hour from to kwh) a n = refl
  refused_record (settle text start) a n = simp (ne_eqb a.number 0 (λ e. omega arith))
  refused_record (restate text start) a n = simp (ne_eqb a.number 0 (λ e. omega arith))
  refused_record (void hour) a n = simp (ne_eqb a.number 0 (λ e. omega arith))

  effect_record : (c : Call) → (effect_of sheet l c).ledger.standing h ≡ record_after sheet h k c (effect_of sheet l c).reply
  unfolding effect_of k
  effect_record (take hour unit kwh) = refl
  effect_record (release hour unit kwh) = refl
  effect_record (move hour from to kwh) = refl
  effect_record (settle text start) = refl
  effect_record (restate text start) = refl
  effect_record (void hour) = refl

  pub step_record : (c : Call) → (step sheet room l c).ledger.standing h ≡ record_after sheet h (l.standing h) c (step sheet room l c).reply
  unfolding k
  step_record c = by (step sheet room l c) (step_told sheet room l c)
    where
      by : (o : Outcome) → Told l (start_of c) (conditions_of sheet room l c) (effect_of sheet l c) o
          → o.ledger.standing h ≡ record_after sheet h (l.standing h) c o.reply
      by o (refuses number line b e) = rw e (refused_record c (record { number = number; line = line; posted = 0; place = start_of c }) b)
      by o (accepts clear e) = rw e (effect_record c)

pub run_record : (sheet : Sheet) (room h : ℕ) (calls : List Call) (l : Ledger)
    → (run sheet room l calls).ledger.standing h ≡ last_from sheet h (l.standing h) calls (run sheet room l calls).replies
unfolding run last_from
run_record sheet room h [] l = refl
run_record sheet room h (c ∷ cs) l =
    run_record sheet room h cs (step sheet room l c).ledger
    ∙ ap (λ (x : Kept). last_from sheet h x cs (run sheet room (step sheet room l c).ledger cs).replies) (step_record sheet room h l c)
