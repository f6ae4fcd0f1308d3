-- The place behind the next `end=hour` line, line by line: a line that is not it is passed whole, and without an LF all that is left is passed.
-- Assumes nothing.
use mathlib.Core.Path.{◌≡◌, refl, ap, sym, ◌∙◌}
use mathlib.Core.Bool.{Bool, true, false, cond}
use mathlib.Core.List.{List, [], ◌∷◌}
use Prim.Native.Nat.{ℕ, suc, ◌+◌, ◌-◌, ◌≤◌, ◌<◌}
use native.Mathlib.Omega.{arith}
use borrow.Author.Tests.{lt-ltb, le-ltb, ltb-true}
use lib.Dec.{eqb, ltb}
use lib.ListN.{length, drop, take, length-drop, drop_of_length-le}
use lib.Seq.{drop-drop}
use Rattle.text.specs.Text.{seek, before, after}
use Rattle.record_end.specs.End.{is_end, behind}

-- a byte that begins no line is passed
inside : (s : List ℕ) → seek 10 10 s < length s → behind false s ≡ suc (seek 10 10 s) + behind true (after 10 s)
unfolding behind seek
inside [] h = omega arith
inside (x ∷ xs) h = by (eqb x 10) (inside xs) h
  where
    by : (t : Bool) → (seek 10 10 xs < length xs → behind false xs ≡ suc (seek 10 10 xs) + behind true (after 10 xs)) → cond t 0 (cond t 0 (suc (seek 10 10 xs))) < suc (length xs)
        → suc (behind t xs) ≡ suc (cond t 0 (cond t 0 (suc (seek 10 10 xs)))) + behind true (drop (cond t 0 (cond t 0 (suc (seek 10 10 xs)))) xs)
    by true f k = omega arith
    by false f k =
        let e : behind false xs ≡ suc (seek 10 10 xs) + behind true (drop (suc (seek 10 10 xs)) xs) = f (omega arith) in omega arith

unended : (b : Bool) (s : List ℕ) → length s ≤ seek 10 10 s → behind b s ≡ length s
unfolding behind seek
unended b [] h = refl
unended b (x ∷ xs) h = by b (eqb x 10) (unended false xs) h
  where
    passed : (t : Bool) → (length xs ≤ seek 10 10 xs → behind false xs ≡ length xs) → suc (length xs) ≤ cond t 0 (cond t 0 (suc (seek 10 10 xs))) → suc (behind t xs) ≡ suc (length xs)
    passed true f k = omega arith
    passed false f k = ap suc (f (omega arith))

    by : (b t : Bool) → (length xs ≤ seek 10 10 xs → behind false xs ≡ length xs) → suc (length xs) ≤ cond t 0 (cond t 0 (suc (seek 10 10 xs)))
        → cond b
        (cond (ltb (cond t 0 (cond t 0 (suc (seek 10 10 xs)))) (suc (length xs)))
        (cond (is_end (take (cond t 0 (cond t 0 (suc (seek 10 10 xs)))) (x ∷ xs))) (suc (cond t 0 (cond t 0 (suc (seek 10 10 xs))))) (suc (behind t xs)))
        (suc (behind t xs)))
        (suc (behind t xs))
        ≡ suc (length xs)
    by true t f k = simp (le-ltb _ _ k) (passed t f k)
    by false t f k = passed t f k

first_end : (s : List ℕ) → seek 10 10 s < length s → is_end (before 10 s) ≡ true → behind true s ≡ suc (seek 10 10 s)
unfolding behind
first_end [] h e = omega arith
first_end (x ∷ xs) h e = simp (lt-ltb _ _ h, e)

first_other : (s : List ℕ) → seek 10 10 s < length s → is_end (before 10 s) ≡ false → behind true s ≡ behind false s
unfolding behind
first_other [] h e = refl
first_other (x ∷ xs) h e = simp (lt-ltb _ _ h, e)

pub none_left : (text : List ℕ) (at : ℕ) → length text ≤ at → behind true (drop at text) ≡ 0
unfolding behind
none_left text at h = rw (drop_of_length-le text {i = at} h)

-- the line at a place whose LF stands at e
module _ (text : List ℕ) (at e : ℕ) (he : e ≡ at + seek 10 10 (drop at text)) where
  pub past_all : at < length text → length text ≤ e → at + behind true (drop at text) ≡ length text
  past_all h k =
      let u : length (drop at text) ≤ seek 10 10 (drop at text) = omega (arith, length-drop at text) in
      omega (arith, unended true (drop at text) u, length-drop at text)

  module _ (k : e < length text) where
    ends : seek 10 10 (drop at text) < length (drop at text)
    ends = omega (arith, length-drop at text)

    pub whole : take (e - at) (drop at text) ≡ before 10 (drop at text)
    whole = let n : e - at ≡ seek 10 10 (drop at text) = omega arith in ap (λ (k : ℕ). take k (drop at text)) n

    pub at_end : is_end (take (e - at) (drop at text)) ≡ true → at + behind true (drop at text) ≡ e + 1
    at_end i = omega (arith, first_end (drop at text) ends (ap is_end (sym whole) ∙ i))

    pub goes_on : is_end (take (e - at) (drop at text)) ≡ false → at + behind true (drop at text) ≡ e + 1 + behind true (drop (e + 1) text)
    goes_on i =
        let a : behind true (drop at text) ≡ suc (seek 10 10 (drop at text)) + behind true (drop (suc (seek 10 10 (drop at text))) (drop at text)) = first_other (drop at text) ends (ap is_end (sym whole) ∙ i) ∙ inside (drop at text) ends in
        let n : at + suc (seek 10 10 (drop at text)) ≡ e + 1 = omega arith in
        let d : drop (suc (seek 10 10 (drop at text))) (drop at text) ≡ drop (e + 1) text = drop-drop (suc (seek 10 10 (drop at text))) at text ∙ ap (λ (j : ℕ). drop j text) n in
        let b : behind true (drop (suc (seek 10 10 (drop at text))) (drop at text)) ≡ behind true (drop (e + 1) text) = ap (behind true) d in
        omega arith

-- the place behind the record is behind its first line, and not past the text's end
pub behind_line : (s : List ℕ) → seek 10 10 s < length s → suc (seek 10 10 s) ≤ behind true s
behind_line s h = by (is_end (before 10 s)) refl
  where
    by : (t : Bool) → is_end (before 10 s) ≡ t → suc (seek 10 10 s) ≤ behind true s
    by true e = omega (arith, first_end s h e)
    by false e = omega (arith, first_other s h e, inside s h)

pub behind_le : (b : Bool) (s : List ℕ) → behind b s ≤ length s
unfolding behind
behind_le b [] = omega arith
behind_le b (x ∷ xs) = by b (ltb (seek 10 10 (x ∷ xs)) (suc (length xs))) refl (is_end (before 10 (x ∷ xs))) (behind_le (eqb x 10) xs)
  where
    by : (b t : Bool) → ltb (seek 10 10 (x ∷ xs)) (suc (length xs)) ≡ t → (i : Bool) → behind (eqb x 10) xs ≤ length xs
        → cond b (cond t (cond i (suc (seek 10 10 (x ∷ xs))) (suc (behind (eqb x 10) xs))) (suc (behind (eqb x 10) xs))) (suc (behind (eqb x 10) xs)) ≤ suc (length xs)
    by false t e i l = omega arith
    by true false e i l = omega arith
    by true true e false l = omega arith
    by true true e true l = let k : seek 10 10 (x ∷ xs) < suc (length xs) = ltb-true _ _ e in omega arith
