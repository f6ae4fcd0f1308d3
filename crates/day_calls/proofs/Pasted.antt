-- What is read of a list over which another one is pasted: before it the list, and in its places the other one. A list is that of its entries.
-- Assumes nothing.
use mathlib.Core.Path.{◌≡◌, sym, ap, ◌∙◌}
use mathlib.Core.List.{List, ◌++◌}
use Prim.Native.Nat.{ℕ, ◌+◌, ◌≤◌, ◌<◌}
use native.Mathlib.Omega.{arith}
use lib.ListN.{length, get_or, take, drop, get_or-append}
use lib.Seq.{paste, length_paste_head, length-take-le, get_or-append-add, get_or-take, ext_get_or}
use Rattle.finite.specs.Finite.{tabulate}
use Rattle.finite.proofs.Tables.{length_tabulate, get_d_tabulate}

pub own_entries : {A : Type 0} (n : ℕ) (l : List A) (z : A) → length l ≡ n → tabulate n (λ i. get_or l i z) ≡ l
own_entries n l z e =
    ext_get_or z (tabulate n (λ i. get_or l i z)) l (length_tabulate n (λ i. get_or l i z) ∙ sym e)
    (λ i h. get_d_tabulate n (λ i. get_or l i z) i z (omega (arith, length_tabulate n (λ i. get_or l i z))))

module _ {A : Type 0} (z : A) (d : List A) (at : ℕ) (s : List A) (n : ℕ) (fits : at + n ≤ length d) (enough : n ≤ length s) where
  abbrev front : List A
  front = take at d ++ take n s

  front_length : length front ≡ at + n
  front_length = length_paste_head d at s n (omega arith) enough

  pub pasted_before : (i : ℕ) → i < at → get_or (paste d at s n) i z ≡ get_or d i z
  pasted_before i l =
      get_or-append front (drop (at + n) d) z i (omega (arith, front_length))
      ∙ get_or-append (take at d) (take n s) z i (omega (arith, length-take-le at d (omega arith)))
      ∙ get_or-take at d i z l

  pub pasted_in : (i : ℕ) → i < n → get_or (paste d at s n) (at + i) z ≡ get_or s i z
  pasted_in i l =
      let e : at + i ≡ length (take at d) + i = omega (arith, length-take-le at d (omega arith)) in
      get_or-append front (drop (at + n) d) z (at + i) (omega (arith, front_length))
      ∙ ap (λ (j : ℕ). get_or front j z) e
      ∙ get_or-append-add (take at d) (take n s) i z
      ∙ get_or-take n s i z l
