-- A call is accepted exactly when none of its rows holds: the verdict is the first row that holds, and every accepted call's answer is no refusal.
-- Assumes nothing.
use Rattle.std.specs.Prelude.{Ok, Err}
use mathlib.Core.Path.{◌≡◌, refl, ◌∙◌}
use mathlib.Core.Bool.{Bool, true, false, cond, not, ◌&&◌}
use mathlib.Core.List.{List, [], ◌∷◌}
use Prim.Native.Nat.{ℕ}
use lib.Dec.{eqb}
use Rattle.sheet.specs.declared.Sheet.{Sheet}
use Rattle.state.specs.declared.Book.{Book}
use Rattle.ledger.specs.Answers.{Verdict}
use Rattle.ledger.specs.Calls.{Row, verdict, none_hold, is_accepted, rows_of, by_verdict, refused_with, accepted_in, decided, Request, Decision}

abbrev passing : Verdict → Bool
passing (Ok tt) = true
passing (Err r) = false

exact : (rs : List Row) → passing (verdict rs) ≡ none_hold rs
unfolding verdict none_hold
exact [] = refl
exact (r ∷ rs) = by r.holds (exact rs)
  where
    by : (t : Bool) → passing (verdict rs) ≡ none_hold rs → passing (cond t (Err r.refusal) (verdict rs)) ≡ (not t && none_hold rs)
    by true e = refl
    by false e = e

module _ (s : Sheet) (b : Book) (q : Request) (count places : ℕ) (posted : Bool) where
  by_kind : (k1 k2 k3 k4 k5 : Bool) (d1 d2 d3 d4 d5 d6 : Decision) → is_accepted d1.answer ≡ true → is_accepted d2.answer ≡ true
      → is_accepted d3.answer ≡ true → is_accepted d4.answer ≡ true → is_accepted d5.answer ≡ true → is_accepted d6.answer ≡ true
      → is_accepted (cond k1 d1 (cond k2 d2 (cond k3 d3 (cond k4 d4 (cond k5 d5 d6))))).answer ≡ true
  by_kind true k2 k3 k4 k5 d1 d2 d3 d4 d5 d6 a1 a2 a3 a4 a5 a6 = a1
  by_kind false true k3 k4 k5 d1 d2 d3 d4 d5 d6 a1 a2 a3 a4 a5 a6 = a2
  by_kind false false true k4 k5 d1 d2 d3 d4 d5 d6 a1 a2 a3 a4 a5 a6 = a3
  by_kind false false false true k5 d1 d2 d3 d4 d5 d6 a1 a2 a3 a4 a5 a6 = a4
  by_kind false false false false true d1 d2 d3 d4 d5 d6 a1 a2 a3 a4 a5 a6 = a5
  by_kind false false false false false d1 d2 d3 d4 d5 d6 a1 a2 a3 a4 a5 a6 = a6

  effect_accepted : is_accepted (accepted_in s b q count).answer ≡ true
  unfolding accepted_in
  effect_accepted =
      by_kind (eqb q.kind 1) (eqb q.kind 2) (eqb q.kind 3) (eqb q.kind 4) (eqb q.kind 5) _ _ _ _ _ _ refl refl refl refl refl refl

  pub accepted_exactly : is_accepted (decided s b q count places posted).answer ≡ none_hold (rows_of s b q count places posted)
  unfolding decided
  accepted_exactly = by (verdict (rows_of s b q count places posted)) ∙ exact (rows_of s b q count places posted)
    where
      by : (v : Verdict) → is_accepted (by_verdict v (accepted_in s b q count) (refused_with b count q.start)).answer ≡ passing v
      by (Ok tt) = effect_accepted
      by (Err r) = refl
