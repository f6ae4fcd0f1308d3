-- Two ladders of tests side by side: where each row of the book's list has the number of the ledger's condition beside it, and both hold
-- alike as long as those before do not, the two lists decide alike.
-- Assumes nothing.
use Rattle.std.specs.Prelude.{Err}
use mathlib.Core.Path.{◌≡◌, refl, ◌∙◌, subst}
use mathlib.Core.Bool.{Bool, true, false, cond}
use mathlib.Core.List.{List, [], ◌∷◌}
use Prim.Native.Nat.{ℕ}
use Rattle.ledger.specs.declared.Refusal.{Refusal}
use Rattle.ledger.specs.Numbers.{refusal_number, refusal_line}
use Rattle.ledger.specs.Ledger.{Ledger, Outcome, Condition, first_of}
use Rattle.ledger.specs.Calls.{Row, verdict, by_verdict, Decision}
use Rattle.ledger.proofs.Told.{Clear, none, more}

pub data Beside : List Row → List Condition → Type 0 where
  done : Beside [] []
  next : {r : Row} {c : Condition} {rs : List Row} {cs : List Condition}
      → refusal_number r.refusal ≡ c.number → refusal_line r.refusal ≡ c.line → r.holds ≡ c.holds
      → (c.holds ≡ false → Beside rs cs) → Beside (r ∷ rs) (c ∷ cs)

-- a refusal of the ledger
abbrev pub refused_by : Ledger → (start number line : ℕ) → Outcome
refused_by l start number line = record { reply = record { number = number; line = line; posted = 0; place = start }; ledger = l }

module _ (P : Decision → Outcome → Type 0) (l : Ledger) (start : ℕ) (d : Decision) (f : Refusal → Decision) (o : Outcome)
    (refused : (r : Refusal) → P (f r) (refused_by l start (refusal_number r) (refusal_line r))) where
  pub beside : (rs : List Row) (cs : List Condition) → Beside rs cs → (Clear cs → P d o) → P (by_verdict (verdict rs) d f) (first_of cs l start o)
  unfolding verdict first_of
  beside [] [] done accept = accept none
  beside [] (c ∷ cs) x4 accept = elim x4 [ ]
  beside (r ∷ rs) [] x4 accept = elim x4 [ ]
  beside (r ∷ rs) (c ∷ cs) (next n i h more') accept = by c.holds refl (λ e. beside rs cs (more' e) (λ k. accept (more e k)))
    where
      numbers : P (f r.refusal) (refused_by l start c.number c.line)
      numbers = subst (λ (x : ℕ). P (f r.refusal) (refused_by l start x c.line)) n (subst (λ (x : ℕ). P (f r.refusal) (refused_by l start (refusal_number r.refusal) x)) i (refused r.refusal))

      by : (t : Bool) → c.holds ≡ t → (c.holds ≡ false → P (by_verdict (verdict rs) d f) (first_of cs l start o))
          → P (by_verdict (cond r.holds (Err r.refusal) (verdict rs)) d f) (cond t (refused_by l start c.number c.line) (first_of cs l start o))
      by true e rest = rw (h ∙ e) numbers
      by false e rest = rw (h ∙ e) (rest e)
