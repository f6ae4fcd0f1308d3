-- Pairs that pass the test of their order: each rises over the one before it.
-- Assumes nothing.
use mathlib.Core.Path.{◌≡◌, refl, subst}
use mathlib.Core.Bool.{Bool, true, false, cond}
use mathlib.Core.List.{List}
use Prim.Native.Nat.{ℕ, zero, suc, ◌+◌, ◌*◌, ◌≤◌, ◌<◌}
use native.Mathlib.Nat.{not-suc-le-zero}
use native.Mathlib.Omega.{arith}
use borrow.Author.Tests.{ltb-true, ltb-false}
use lib.Dec.{ltb}
use lib.ListN.{get_or}
use Rattle.values.specs.Values.{rising}

-- the pair at b rises over the pair of q and p
pub record Over (l : List ℕ) (b q p : ℕ) : Type 0 where
  pub first : q < get_or l b 0
  pub second : p ≤ get_or l (b + 1) 0

module _ (l : List ℕ) where
  -- the first pair, and the order of the others
  opened : (at left q p : ℕ) → rising l at (suc left) q p ≡ true → (Over l at q p) × (rising l (at + 2) left (get_or l at 0) (get_or l (at + 1) 0) ≡ true)
  unfolding rising
  opened at left q p = by (ltb q (get_or l at 0)) refl (ltb (get_or l (at + 1) 0) p) refl
    where
      rest : Bool
      rest = rising l (at + 2) left (get_or l at 0) (get_or l (at + 1) 0)

      by : (t : Bool) → ltb q (get_or l at 0) ≡ t → (u : Bool) → ltb (get_or l (at + 1) 0) p ≡ u → cond t (cond u false rest) false ≡ true
          → (Over l at q p) × (rest ≡ true)
      by true e false f h = (record { first = ltb-true _ _ e; second = ltb-false _ _ f }, h)
      by true e true f h = absurd (let z : ◌≡◌ {A = ℕ} 0 1 = cc in omega arith)
      by false e u f h = absurd (let z : ◌≡◌ {A = ℕ} 0 1 = cc in omega arith)

  pub rises_at : (left at q p : ℕ) → rising l at left q p ≡ true → (s : ℕ) → s + 1 < left
      → Over l (at + 2 * s + 2) (get_or l (at + 2 * s) 0) (get_or l (at + 2 * s + 1) 0)
  rises_at zero at q p h s b = absurd (not-suc-le-zero b)
  rises_at (suc zero) at q p h s b = absurd (let z : 1 ≤ 0 = omega arith in omega arith)
  rises_at (suc (suc left)) at q p h zero b =
      let o = (opened (at + 2) left (get_or l at 0) (get_or l (at + 1) 0) (opened at (suc left) q p h).1).0 in
      let e : at + 2 * 0 ≡ at = omega arith in
      rw e o
  rises_at (suc (suc left)) at q p h (suc s) b =
      let e : at + 2 + 2 * s ≡ at + 2 * suc s = omega arith in
      subst (λ (n : ℕ). Over l (n + 2) (get_or l n 0) (get_or l (n + 1) 0)) e
      (rises_at (suc left) (at + 2) (get_or l at 0) (get_or l (at + 1) 0) (opened at (suc left) q p h).1 s (omega arith))
