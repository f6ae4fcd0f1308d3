-- The number of a part, by its digits, its length and its first byte: each test of the definition in turn.
-- Assumes nothing.
use mathlib.Core.Path.{◌≡◌, refl, ap, sym, ◌∙◌}
use mathlib.Core.Bool.{Bool, true, false, cond}
use mathlib.Core.List.{List}
use Prim.Native.Nat.{ℕ, ◌+◌, ◌≤◌, ◌<◌}
use native.Mathlib.Nat.{add-zero}
use native.Mathlib.Omega.{arith}
use borrow.Author.Tests.{le-ltb, lt-ltb, ltb-false, ne_eqb, eq-eqb}
use lib.Dec.{ltb, eqb}
use lib.ListN.{length, drop, get_or}
use lib.Seq.{length-take-le, get_or-take, get_or-drop}
use Rattle.std.specs.Prelude.{Option, Some, None}
use Rattle.std.proofs.lemmas.Option.{same_Some, none-some}
use Rattle.text.specs.declared.Part.{Part}
use Rattle.text.specs.Text.{seek, digits, at_least, leading_zero, number_in, part_with}
use Rattle.text.specs.Rows.{part_bytes}
use Rattle.text.proofs.Walk.{seek_le}

-- what a part that is read has, and what one that is refused lacks
pub part_some : (p : Part) (e : ℕ) (r : Option ℕ) → Some p ≡ part_with e r → (r ≡ Some p.number) × (p.end ≡ e)
part_some p e (Some n) h =
    let q : p ≡ record { number = n; end = e } = same_Some _ _ h in
    (ap (λ (x : ℕ). Some x) (sym (ap (λ (x : Part). x.number) q)), ap (λ (x : Part). x.end) q)
part_some p e None h = absurd (none-some p (sym h))

pub part_none : (e : ℕ) (r : Option ℕ) → None ≡ part_with e r → r ≡ None
part_none e (Some n) h = absurd (none-some _ h)
part_none e None h = refl

pub part_is : (p : Part) (e : ℕ) (r : Option ℕ) → r ≡ Some p.number → p.end ≡ e → Some p ≡ part_with e r
part_is p e r h k = rw (h, ← k) refl

none : (t u : Bool) → ◌≡◌ {A = Option ℕ} (cond t None (cond u None None)) None
none true u = refl
none false true = refl
none false false = refl

module _ (low high : ℕ) (b : List ℕ) where
  pub not_digits : digits high 0 b ≡ None → number_in low high b ≡ None
  unfolding number_in
  not_digits e = simp e (none (eqb (length b) 0) (leading_zero b))

  pub too_small : (n : ℕ) → digits high 0 b ≡ Some n → n < low → number_in low high b ≡ None
  unfolding number_in
  too_small n e h = simp (e, lt-ltb n low h) (none (eqb (length b) 0) (leading_zero b))

  pub no_digit : length b ≡ 0 → number_in low high b ≡ None
  unfolding number_in
  no_digit e = simp (eq-eqb _ _ e)

  pub zero_first : 2 ≤ length b → get_or b 0 0 ≡ 48 → number_in low high b ≡ None
  unfolding number_in leading_zero
  zero_first h e = simp (ne_eqb (length b) 0 (λ q. omega arith), le-ltb (length b) 2 h, eq-eqb (get_or b 0 0) 48 e)

  pub plain : (n : ℕ) → digits high 0 b ≡ Some n → low ≤ n → 0 < length b → (2 ≤ length b → get_or b 0 0 ≡ 48 → ⊥) → number_in low high b ≡ Some n
  unfolding number_in leading_zero
  plain n e h some first = by (ltb (length b) 2) refl
    where
      by : (t : Bool) → ltb (length b) 2 ≡ t
          → cond (eqb (length b) 0) None (cond (cond t false (eqb (get_or b 0 0) 48)) None (at_least low (digits high 0 b))) ≡ Some n
      by true q = simp (ne_eqb (length b) 0 (λ z. omega arith), e, le-ltb n low h)
      by false q = simp (ne_eqb (length b) 0 (λ z. omega arith), ne_eqb (get_or b 0 0) 48 (first (ltb-false (length b) 2 q)), e, le-ltb n low h)

-- the length of a part that ends at a place, and its first byte
module _ (v : List ℕ) (from end : ℕ) (e : end ≡ from + seek 58 44 (drop from v)) where
  pub part_length : from + length (part_bytes v from) ≡ end
  part_length = omega (arith, length-take-le (seek 58 44 (drop from v)) (drop from v) (seek_le 58 44 (drop from v)))

  pub part_first : from < end → get_or (part_bytes v from) 0 0 ≡ get_or v from 0
  part_first h =
      get_or-take (seek 58 44 (drop from v)) (drop from v) 0 0 (omega arith) ∙ (get_or-drop from v 0 0 ∙ ap (λ (k : ℕ). get_or v k 0) (add-zero from))
