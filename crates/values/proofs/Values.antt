-- One number of a value: what is left of the value, by what stands at its front.
-- Assumes nothing.
use mathlib.Core.Path.{◌≡◌, ap, sym, ◌∙◌}
use mathlib.Core.Bool.{Bool, true, false, cond}
use mathlib.Core.List.{List}
use Prim.Native.Nat.{ℕ, suc, ◌+◌, ◌≤◌, ◌<◌}
use native.Mathlib.Omega.{arith}
use borrow.Author.Tests.{le-ltb, lt-ltb, ne_eqb, eq-eqb}
use lib.ListN.{length, drop, get_or, take, length-drop}
use lib.Seq.{drop-drop, get_or-drop}
use Rattle.std.specs.Prelude.{Some, None, Ok, Err}
use Rattle.text.specs.declared.TextFault.TheVariants.{BadValue}
use Rattle.text.specs.declared.Line.{Line}
use Rattle.text.specs.Text.{seek, number_in}
use Rattle.values.specs.Values.{added, last, mark_due, part_next, numbers, rising}

module _ (low high : List ℕ) (parts k p : ℕ) (s : List ℕ) (l : Line) where
  pub bad : number_in (get_or low p 0) (get_or high p 0) (take (seek 58 44 s) s) ≡ None → numbers low high parts (suc k) p s l ≡ Err BadValue
  unfolding numbers
  bad e = simp e

  module _ (n : ℕ) (e : number_in (get_or low p 0) (get_or high p 0) (take (seek 58 44 s) s) ≡ Some n) where
    pub whole : length s ≤ seek 58 44 s → p + 1 ≡ parts → numbers low high parts (suc k) p s l ≡ Ok (added l n)
    unfolding numbers
    whole h q = simp (e, le-ltb _ _ h, eq-eqb _ _ q)

    pub part : length s ≤ seek 58 44 s → (p + 1 ≡ parts → ⊥) → numbers low high parts (suc k) p s l ≡ Err BadValue
    unfolding numbers
    part h q = simp (e, le-ltb _ _ h, ne_eqb _ _ q)

    pub other : seek 58 44 s < length s → (get_or s (seek 58 44 s) 0 ≡ mark_due parts p → ⊥) → numbers low high parts (suc k) p s l ≡ Err BadValue
    unfolding numbers
    other h q = simp (e, lt-ltb _ _ h, ne_eqb _ _ q)

    pub more : seek 58 44 s < length s → get_or s (seek 58 44 s) 0 ≡ mark_due parts p → numbers low high parts (suc k) p s l ≡ numbers low high parts k (part_next parts p) (drop (suc (seek 58 44 s)) s) (added l n)
    unfolding numbers
    more h q = simp (e, lt-ltb _ _ h, eq-eqb _ _ q)

-- the number at `from`, which ends at e
module _ (v : List ℕ) (from e : ℕ) (he : e ≡ from + seek 58 44 (drop from v)) where
  pub at_mark : get_or (drop from v) (seek 58 44 (drop from v)) 0 ≡ get_or v e 0
  at_mark = get_or-drop from v (seek 58 44 (drop from v)) 0 ∙ ap (λ (k : ℕ). get_or v k 0) (sym he)

  pub past_mark : drop (suc (seek 58 44 (drop from v))) (drop from v) ≡ drop (e + 1) v
  past_mark =
      let h : from + suc (seek 58 44 (drop from v)) ≡ e + 1 = omega arith in
      drop-drop (suc (seek 58 44 (drop from v))) from v ∙ ap (λ (k : ℕ). drop k v) h

  pub ended : length v ≤ e → length (drop from v) ≤ seek 58 44 (drop from v)
  ended h = omega (arith, length-drop from v)

  pub goes_on : e < length v → seek 58 44 (drop from v) < length (drop from v)
  goes_on h = omega (arith, length-drop from v)

next_le : (t : Bool) (p : ℕ) → cond t 0 (p + 1) ≤ p + 1
next_le true p = omega arith
next_le false p = omega arith

pub part_next_le : (parts p : ℕ) → part_next parts p ≤ p + 1
part_next_le parts p = next_le (last parts p) p

module _ (l : List ℕ) (at k q p : ℕ) where
  pub not_above : get_or l at 0 ≤ q → rising l at (suc k) q p ≡ false
  unfolding rising
  not_above h = simp (le-ltb _ _ h)

  pub falls : q < get_or l at 0 → get_or l (at + 1) 0 < p → rising l at (suc k) q p ≡ false
  unfolding rising
  falls h j = simp (lt-ltb _ _ h, lt-ltb _ _ j)

  pub rises : q < get_or l at 0 → p ≤ get_or l (at + 1) 0 → rising l at (suc k) q p ≡ rising l (at + 2) k (get_or l at 0) (get_or l (at + 1) 0)
  unfolding rising
  rises h j = simp (lt-ltb _ _ h, le-ltb _ _ j)
