-- The first condition that holds decides: either a call is refused by it and the ledger stays, or none holds and the call has its effect.
-- Assumes nothing.
use Rattle.std.specs.Prelude.{Result, Ok, Err}
use Rattle.lines.specs.declared.TextRefusal.{TextRefusal}
use mathlib.Core.Path.{◌≡◌, refl}
use mathlib.Core.Bool.{Bool, true, false, cond, not, ◌&&◌}
use mathlib.Core.List.{List, [], ◌∷◌, ◌++◌}
use Prim.Native.Nat.{ℕ, ◌≤◌}
use lib.Dec.{leb}
use borrow.Author.Tests.{leb-true}
use Rattle.finite.proofs.Tests.{and_left, and_right}
use Rattle.record_text.proofs.Laws.{refused_number}
use Rattle.sheet.specs.declared.Sheet.{Sheet}
use Rattle.ledger.specs.Ledger.{Call, take, release, move, settle, restate, void, Ledger, Outcome, Condition, when, first_of, always, text_condition, take_conditions, release_conditions, move_conditions, record_conditions, void_conditions, stands, given, conditions_of, start_of, effect_of, step}

-- every condition has a refusal's number
pub data Numbered : List Condition → Type 0 where
  none : Numbered []
  more : {c : Condition} {cs : List Condition} → 1 ≤ c.number → Numbered cs → Numbered (c ∷ cs)

-- no condition holds
pub data Clear : List Condition → Type 0 where
  none : Clear []
  more : {c : Condition} {cs : List Condition} → c.holds ≡ false → Clear cs → Clear (c ∷ cs)

-- a call that is refused, or has its effect
pub data Told (l : Ledger) (start : ℕ) (cs : List Condition) (accepted out : Outcome) : Type 0 where
  refuses : (number line : ℕ) → 1 ≤ number
      → out ≡ record { reply = record { number = number; line = line; posted = 0; place = start }; ledger = l } → Told l start cs accepted out
  accepts : Clear cs → out ≡ accepted → Told l start cs accepted out

pub told : (l : Ledger) (start : ℕ) (o : Outcome) (cs : List Condition) → Numbered cs → Told l start cs o (first_of cs l start o)
unfolding first_of
told l start o [] none = accepts none refl
told l start o (c ∷ cs) (more n ns) = by c.holds refl (told l start o cs ns)
  where
    by : (t : Bool) → c.holds ≡ t → Told l start cs o (first_of cs l start o)
        → Told l start (c ∷ cs) o
        (cond t (record { reply = record { number = c.number; line = c.line; posted = 0; place = start }; ledger = l }) (first_of cs l start o))
    by true e r = refuses c.number c.line n refl
    by false e (refuses number line b q) = refuses number line b q
    by false e (accepts clear q) = accepts (more e clear) q

numbered_append : (xs bs : List Condition) → Numbered xs → Numbered bs → Numbered (xs ++ bs)
numbered_append [] bs none n = n
numbered_append (a ∷ xs) bs (more h m) n = more h (numbered_append xs bs m n)

text_numbered : (r : Result ℕ TextRefusal) → Numbered (text_condition r)
text_numbered (Ok place) = none
text_numbered (Err r) = more (refused_number r).0 none

-- a list of rows that is written out is tested by computing
positive : List Condition → Bool
positive [] = true
positive (c ∷ cs) = leb 1 c.number && positive cs

written : (cs : List Condition) → positive cs ≡ true → Numbered cs
unfolding positive
written [] e = none
written (c ∷ cs) e =
    more (leb-true _ _ (and_left (leb 1 c.number) (positive cs) e)) (written cs (and_right (leb 1 c.number) (positive cs) e))

pub numbered : (sheet : Sheet) (room : ℕ) (l : Ledger) (c : Call) → Numbered (conditions_of sheet room l c)
unfolding conditions_of positive
numbered sheet room l (take hour unit kwh) = written (always sheet room l ++ take_conditions sheet l hour unit kwh) refl
numbered sheet room l (release hour unit kwh) = written (always sheet room l ++ release_conditions sheet l hour unit kwh) refl
numbered sheet room l (move hour from to kwh) = written (always sheet room l ++ move_conditions sheet l hour from to kwh) refl
numbered sheet room l (settle text start) =
    let r = given sheet text start in
    let rows = record_conditions sheet room l r.read (when 40 (stands (l.standing r.read.hour))) in
    numbered_append (always sheet room l) (text_condition r.answer ++ rows) (written (always sheet room l) refl)
    (numbered_append (text_condition r.answer) rows (text_numbered r.answer) (written rows refl))
numbered sheet room l (restate text start) =
    let r = given sheet text start in
    let rows = record_conditions sheet room l r.read (when 41 (not (stands (l.standing r.read.hour)))) in
    numbered_append (always sheet room l) (text_condition r.answer ++ rows) (written (always sheet room l) refl)
    (numbered_append (text_condition r.answer) rows (text_numbered r.answer) (written rows refl))
numbered sheet room l (void hour) = written (always sheet room l ++ void_conditions sheet room l hour) refl

-- one call on the ledger, told apart
pub step_told : (sheet : Sheet) (room : ℕ) (l : Ledger) (c : Call)
    → Told l (start_of c) (conditions_of sheet room l c) (effect_of sheet l c) (step sheet room l c)
unfolding step
step_told sheet room l c = told l (start_of c) (effect_of sheet l c) (conditions_of sheet room l c) (numbered sheet room l c)

-- an effect is an acceptance
pub effect_accepted : (sheet : Sheet) (l : Ledger) (c : Call) → (effect_of sheet l c).reply.number ≡ 0
unfolding effect_of
effect_accepted sheet l (take hour unit kwh) = refl
effect_accepted sheet l (release hour unit kwh) = refl
effect_accepted sheet l (move hour from to kwh) = refl
effect_accepted sheet l (settle text start) = refl
effect_accepted sheet l (restate text start) = refl
effect_accepted sheet l (void hour) = refl
