-- Number i of a value is part i modulo the parts of a group: the parts go round.
-- Assumes nothing.
use mathlib.Core.Path.{◌≡◌, refl, ap, sym, ◌∙◌}
use mathlib.Core.Bool.{Bool, true, false, cond}
use Prim.Native.Nat.{ℕ, zero, suc, ◌+◌, ◌%◌, ◌<◌}
use native.Mathlib.Nat.{zero-mod, suc-mod, mod_self, mod-lt, mod-eq_of_lt}
use native.Mathlib.Numerals.{add-one}
use native.Mathlib.Omega.{arith}
use borrow.Author.Tests.{eqb-true, eqb-false}
use lib.Dec.{eqb}
use Rattle.values.specs.Values.{part_next}
use Rattle.values.proofs.Fits.{part_of}

next : (parts p n : ℕ) → p ≡ n % parts → p < parts → part_next parts p ≡ suc n % parts
next parts p n e l = by (eqb (p + 1) parts) refl
  where
    on : suc n % parts ≡ (p + 1) % parts
    on = suc-mod n parts ∙ ap (λ (x : ℕ). x % parts) (ap suc (sym e) ∙ sym (add-one p))

    by : (t : Bool) → eqb (p + 1) parts ≡ t → cond t 0 (p + 1) ≡ suc n % parts
    by true t = sym (on ∙ (ap (λ (x : ℕ). x % parts) (eqb-true _ _ t) ∙ mod_self parts))
    by false t = let d : p + 1 ≡ parts → ⊥ = eqb-false _ _ t in sym (on ∙ mod-eq_of_lt (omega arith))

pub part_of_lem : (parts n : ℕ) → 0 < parts → part_of parts n ≡ n % parts
unfolding part_of
part_of_lem parts zero h = sym (zero-mod parts)
part_of_lem parts (suc n) h = let e = part_of_lem parts n h in next parts (part_of parts n) n e (omega (arith, mod-lt n {m = parts} h))
