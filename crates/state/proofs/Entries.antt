-- The entries of the book's arrays: hour and place of an entry, and the entries of an hour's units replaced one after the other.
-- Assumes nothing.
use mathlib.Core.Path.{◌≡◌, refl, sym, ◌∙◌}
use mathlib.Core.Logic.{◌⊎◌, inl, inr, ⊎_elim}
use mathlib.Core.Bool.{Bool, true, false, cond, ◌&&◌}
use mathlib.Core.List.{List, [], ◌∷◌}
use Prim.Native.Nat.{ℕ, zero, suc, ◌+◌, ◌/◌, ◌%◌, ◌<◌}
use native.Mathlib.Nat.{eq-or-lt_of_le, le_of_suc-le-suc, not-suc-le-zero}
use native.Mathlib.Omega.{arith}
use borrow.Author.Tests.{lt-ltb, le-ltb, ltb-true, ltb-false, eq-eqb, ne_eqb, eqb-true, eqb-false}
use lib.Dec.{ltb, eqb}
use lib.ListN.{length, get_or, set, length-set}
use lib.Seq.{get_or-set_same, get_or-set_other, ext_get_or}
use Rattle.finite.specs.Finite.{tabulate}
use Rattle.finite.proofs.Tables.{length_tabulate, get_d_tabulate}
use Rattle.units.specs.Units.{member_at}
use Rattle.state.specs.Sizes.{hours, places, entries, entry_of}
use Rattle.state.specs.Book.{stored}

pub entry_lt : (h k : ℕ) → h < hours → k < places → entry_of h k < entries
entry_lt h k a b = omega arith

pub entry_hour : (h k : ℕ) → k < places → entry_of h k / places ≡ h
entry_hour h k l = omega arith

pub entry_place : (h k : ℕ) → k < places → entry_of h k % places ≡ k
entry_place h k l = omega arith

-- each entry is that of an hour and a place
pub entry_back : (j : ℕ) → entry_of (j / places) (j % places) ≡ j
entry_back j = omega arith

pub and_false : (a : Bool) → (a && false) ≡ false
and_false true = refl
and_false false = refl

pub and_true : (a : Bool) → (a && true) ≡ a
and_true true = refl
and_true false = refl

pub same_or_not : (a b : ℕ) → (a ≡ b) ⊎ (a ≡ b → ⊥)
same_or_not a b = by (eqb a b) refl
  where
    by : (t : Bool) → eqb a b ≡ t → (a ≡ b) ⊎ (a ≡ b → ⊥)
    by true e = inl (eqb-true a b e)
    by false e = inr (eqb-false a b e)

-- what is read within a list does not go by what is read past its end
pub read_within : {A : Type 0} (l : List A) (i : ℕ) (x y : A) → i < length l → get_or l i x ≡ get_or l i y
read_within [] i x y h = absurd (not-suc-le-zero h)
read_within (z ∷ l) zero x y h = refl
read_within (z ∷ l) (suc i) x y h = read_within l i x y (le_of_suc-le-suc h)

module _ {A : Type 0} (none : A) (h units : ℕ) (new old : List A) where
  -- entry j is the new one of a place, in the plant and below n, in hour h, or else the old one
  abbrev touched : ℕ → ℕ → Bool
  touched n j = (ltb (j % places) n && member_at units (j % places)) && eqb (j / places) h

  -- the list after the first n places
  pub record Stored (n : ℕ) (l : List A) : Type 0 where
    pub long : length l ≡ entries
    pub entry : (j : ℕ) → j < entries → get_or l j none ≡ cond (touched n j) (get_or new (j % places) none) (get_or old j none)

  pub stored_none : length old ≡ entries → Stored 0 old
  stored_none e = record { long = e; entry = λ j l. simp (le-ltb (j % places) 0 (omega arith)) }

  other_by : (n j : ℕ) → n < places → (j ≡ entry_of h n → ⊥) → (t : Bool) → ltb (j % places) n ≡ t → touched n j ≡ touched (n + 1) j
  other_by n j l apart true e = rw (e, lt-ltb (j % places) (n + 1) (omega (arith, ltb-true (j % places) n e)))
  other_by n j l apart false e =
      ⊎_elim
      (λ (q : n ≡ j % places). rw (e, ne_eqb (j / places) h (λ p. apart (omega arith)), and_false))
      (λ (q : n < j % places). rw (e, le-ltb (j % places) (n + 1) (omega arith)))
      (eq-or-lt_of_le (ltb-false (j % places) n e))

  other : (n j : ℕ) → n < places → (j ≡ entry_of h n → ⊥) → touched n j ≡ touched (n + 1) j
  other n j l apart = other_by n j l apart (ltb (j % places) n) refl

  same : (n : ℕ) → n < places → touched (n + 1) (entry_of h n) ≡ member_at units n
  same n l =
      rw (entry_place h n l, entry_hour h n l, lt-ltb n (n + 1) (omega arith), eq-eqb h h refl) (and_true (member_at units n))

  module _ (n : ℕ) (l : List A) (s : Stored n l) (below : n < places) where
    entry_in : h < hours → member_at units n ≡ true → (j : ℕ) → j < entries
        → get_or (set l (entry_of h n) (get_or new n none)) j none
        ≡ cond (touched (n + 1) j) (get_or new (j % places) none) (get_or old j none)
    entry_in day m j lt =
        ⊎_elim
        (λ (e : j ≡ entry_of h n).
        rw (e, same n below, m, entry_place h n below)
        (get_or-set_same l (entry_of h n) (get_or new n none) none (omega (arith, s.long))))
        (λ (apart : j ≡ entry_of h n → ⊥).
        get_or-set_other l (entry_of h n) j (get_or new n none) none apart ∙ rw (← other n j below apart) (s.entry j lt))
        (same_or_not j (entry_of h n))

    pub stored_in : h < hours → member_at units n ≡ true → Stored (n + 1) (set l (entry_of h n) (get_or new n none))
    stored_in day m =
        record { long = length-set l (entry_of h n) (get_or new n none) ∙ s.long; entry = entry_in day m }

    entry_out : member_at units n ≡ false → (j : ℕ) → j < entries
        → get_or l j none ≡ cond (touched (n + 1) j) (get_or new (j % places) none) (get_or old j none)
    entry_out m j lt =
        ⊎_elim
        (λ (e : j ≡ entry_of h n).
        s.entry j lt
        ∙ rw (e, same n below, m, entry_place h n below, le-ltb n n (omega arith)))
        (λ (apart : j ≡ entry_of h n → ⊥). rw (← other n j below apart) (s.entry j lt))
        (same_or_not j (entry_of h n))

    pub stored_out : member_at units n ≡ false → Stored (n + 1) l
    stored_out m = record { long = s.long; entry = entry_out m }

  pub stored_all : (l : List A) → Stored places l → l ≡ stored none h units new old
  unfolding stored
  stored_all l s =
      let f : ℕ → A = λ j. cond (member_at units (j % places) && eqb (j / places) h) (get_or new (j % places) none) (get_or old j none) in
      ext_get_or none l (tabulate entries f) (s.long ∙ sym (length_tabulate entries f))
      (λ j lt. let e : j < entries = omega (arith, s.long) in
      s.entry j e ∙ (rw (lt-ltb (j % places) places (omega arith)) refl ∙ sym (get_d_tabulate entries f j none e)))

  -- the entry of an hour and a place
  pub stored_at : (g k : ℕ) → g < hours → k < places
      → get_or (stored none h units new old) (entry_of g k) none
      ≡ cond (member_at units k && eqb g h) (get_or new k none) (get_or old (entry_of g k) none)
  unfolding stored
  stored_at g k a b =
      get_d_tabulate entries (λ j. cond (member_at units (j % places) && eqb (j / places) h) (get_or new (j % places) none) (get_or old j none))
      (entry_of g k) none (entry_lt g k a b)
      ∙ rw (entry_place g k b, entry_hour g k b)

  pub length_stored : length (stored none h units new old) ≡ entries
  unfolding stored
  length_stored = length_tabulate entries _
