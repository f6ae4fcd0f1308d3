-- One turn of a search, of a word's comparison and of a number's reading, on the list that is left.
-- Assumes nothing.
use mathlib.Core.Path.{◌≡◌, refl, ap, sym, ◌∙◌}
use mathlib.Core.Bool.{Bool, true, false, cond, ◌&&◌}
use mathlib.Core.List.{List, [], ◌∷◌}
use Prim.Native.Nat.{ℕ, suc, ◌+◌, ◌*◌, ◌-◌, ◌≤◌, ◌<◌}
use native.Mathlib.Nat.{not-suc-le-zero}
use native.Mathlib.Omega.{arith}
use lib.Pointwise.{pointwise}
use mathlib.Core.Logic.{◌⊎◌, ⊎_elim}
use denote.Param.Members.{Mut, Called}
use denote.Ref.{Bor}
use Rattle.std.specs.List.{FoldsTo}
use Rattle.std.specs.Option.{MatchOption}
use Rattle.std.specs.Iterator.{YieldsThen}
use Rattle.std.specs.Slice.Iter.{iter_rest}
use Rattle.std.specs.declared.slice.Iter.{Iter}
use Rattle.std.proofs.iter.Yields.{fronts}
use Rattle.std.proofs.lemmas.Iterator.{YieldsList-from_slice, IsFirst-from_position, index_from_first}
use Rattle.text.specs.declared.Part.{Part}
use Rattle.std.proofs.lemmas.Option.{same_Some, none-some}
use native.Mathlib.Numerals.{add-one}
use borrow.Author.Tests.{le-ltb, lt-ltb, ne_eqb, eq-eqb, ltb-true, ltb-false, eqb-true}
use lib.Dec.{ltb, eqb}
use lib.ListN.{length, drop, get_or, take, length-drop, drop_of_length-le}
use lib.Seq.{drop-cons, take_all}
use Rattle.std.specs.Prelude.{Option, Some, None, unwrap_or}
use Rattle.text.specs.Text.{seek, before, has, word_is, key_is, digits, within, part_with}
use Rattle.text.specs.Rows.{part_bytes}

-- a part that goes to the end is what is left
pub rest : (l : List ℕ) (i : ℕ) → take (length l - i) (drop i l) ≡ drop i l
rest l i = take_all (length l - i) (drop i l) (omega (arith, length-drop i l))

pub seek_end : (a b : ℕ) (l : List ℕ) (i : ℕ) → length l ≤ i → seek a b (drop i l) ≡ 0
unfolding seek
seek_end a b l i h = rw (drop_of_length-le l {i = i} h)

one : (t u : Bool) (n m : ℕ) → n ≤ m → cond t 0 (cond u 0 (suc n)) ≤ suc m
one true u n m h = omega arith
one false true n m h = omega arith
one false false n m h = omega arith

pub seek_le : (a b : ℕ) (l : List ℕ) → seek a b l ≤ length l
unfolding seek
seek_le a b [] = omega arith
seek_le a b (x ∷ xs) = one (eqb x a) (eqb x b) _ _ (seek_le a b xs)

module _ (l : List ℕ) (i : ℕ) (h : i < length l) where
  left : drop i l ≡ get_or l i 0 ∷ drop (i + 1) l
  left = rw (add-one, drop-cons l i 0)

  pub seek_first : (a b : ℕ) → get_or l i 0 ≡ a → seek a b (drop i l) ≡ 0
  unfolding seek
  seek_first a b e = ap (seek a b) left ∙ simp (eq-eqb _ _ e)

  pub seek_second : (a b : ℕ) → (get_or l i 0 ≡ a → ⊥) → get_or l i 0 ≡ b → seek a b (drop i l) ≡ 0
  unfolding seek
  seek_second a b n e = ap (seek a b) left ∙ simp (ne_eqb _ _ n, eq-eqb _ _ e)

  pub seek_on : (a b : ℕ) → (get_or l i 0 ≡ a → ⊥) → (get_or l i 0 ≡ b → ⊥) → seek a b (drop i l) ≡ suc (seek a b (drop (i + 1) l))
  unfolding seek
  seek_on a b n m = ap (seek a b) left ∙ simp (ne_eqb _ _ n, ne_eqb _ _ m)

  -- at a mark
  pub seek_mark : (get_or l i 0 ≡ 44) ⊎ ((get_or l i 0 ≡ 44 → ⊥) × (get_or l i 0 ≡ 58)) → seek 58 44 (drop i l) ≡ 0
  seek_mark = ⊎_elim (λ e. seek_second 58 44 (λ q. omega arith) e) (λ (n, e). seek_first 58 44 e)

  pub bytes_on : (get_or l i 0 ≡ 58 → ⊥) → (get_or l i 0 ≡ 44 → ⊥) → part_bytes l i ≡ get_or l i 0 ∷ part_bytes l (i + 1)
  bytes_on n m = ap (λ (k : ℕ). take k (drop i l)) (seek_on 58 44 n m) ∙ ap (take (suc (seek 58 44 (drop (i + 1) l)))) left

-- the digits from i on make those from the beginning of the part
module _ (v : List ℕ) (from high n i : ℕ) (ends : i + seek 58 44 (drop i v) ≡ from + seek 58 44 (drop from v))
    (e : digits high n (part_bytes v i) ≡ digits high 0 (part_bytes v from)) where
  pub ended : (j : ℕ) → j ≡ i → seek 58 44 (drop i v) ≡ 0
      → ◌≡◌ {A = Option Part} (Some (record { number = n; end = j })) (part_with (from + seek 58 44 (drop from v)) (digits high 0 (part_bytes v from)))
  unfolding digits
  ended j is z =
      let none : digits high n (part_bytes v i) ≡ Some n = ap (λ (k : ℕ). digits high n (take k (drop i v))) z in
      let place : j ≡ from + seek 58 44 (drop from v) = omega arith in
      rw (← e, none, ← place) refl

  pub spoilt : digits high n (part_bytes v i) ≡ None → None ≡ part_with (from + seek 58 44 (drop from v)) (digits high 0 (part_bytes v from))
  spoilt m = rw (← e, m) refl

-- one byte of a number
module _ (high n x : ℕ) (xs : List ℕ) where
  pub low : x < 48 → digits high n (x ∷ xs) ≡ None
  unfolding digits
  low e = simp (lt-ltb _ _ e)

  pub up : 48 ≤ x → 57 < x → digits high n (x ∷ xs) ≡ None
  unfolding digits
  up e f = simp (le-ltb _ _ e, lt-ltb _ _ f)

  pub large : 48 ≤ x → x ≤ 57 → high < n * 10 + (x - 48) → digits high n (x ∷ xs) ≡ None
  unfolding digits
  large e f g = simp (le-ltb _ _ e, le-ltb _ _ f, lt-ltb _ _ g)

  pub digit : 48 ≤ x → x ≤ 57 → n * 10 + (x - 48) ≤ high → digits high n (x ∷ xs) ≡ digits high (n * 10 + (x - 48)) xs
  unfolding digits
  digit e f g = simp (le-ltb _ _ e, le-ltb _ _ f, le-ltb _ _ g)

-- a number that is within its bound or above it
pub within_none : (high n : ℕ) → within high n ≡ None → high < n
within_none high n = by (ltb high n) refl
  where
    by : (t : Bool) → ltb high n ≡ t → cond t None (Some n) ≡ None → high < n
    by true e h = ltb-true _ _ e
    by false e h = absurd (none-some n (sym h))

pub within_some : (high n m : ℕ) → within high n ≡ Some m → (n ≡ m) × (n ≤ high)
within_some high n m = by (ltb high n) refl
  where
    by : (t : Bool) → ltb high n ≡ t → cond t None (Some n) ≡ Some m → (n ≡ m) × (n ≤ high)
    by true e h = absurd (none-some m h)
    by false e h = (same_Some _ _ h, ltb-false _ _ e)

neither : (t : Bool) → cond t false false ≡ false
neither true = refl
neither false = refl

both : (t u v : Bool) → u ≡ v → cond t u false ≡ (t && v)
both true u v e = e
both false u v e = refl

-- a text is the word, where its bytes are those before the word's '='
pub word_within : (s w : List ℕ) → seek 61 61 w < length w → word_is s w ≡ pointwise eqb s (take (seek 61 61 w) w)
unfolding word_is seek
word_within s [] h = absurd (not-suc-le-zero h)
word_within [] (y ∷ ys) h = by (eqb y 61) refl
  where
    by : (t : Bool) → eqb y 61 ≡ t → eqb y 61 ≡ pointwise eqb [] (take (cond t 0 (cond t 0 (suc (seek 61 61 ys)))) (y ∷ ys))
    by true e = e
    by false e = e
word_within (x ∷ xs) (y ∷ ys) h = by (word_within xs ys) (eqb y 61) h
  where
    by : (seek 61 61 ys < length ys → word_is xs ys ≡ pointwise eqb xs (take (seek 61 61 ys) ys)) → (t : Bool) → cond t 0 (cond t 0 (suc (seek 61 61 ys))) < suc (length ys)
        → cond t false (cond (eqb x y) (word_is xs ys) false) ≡ pointwise eqb (x ∷ xs) (take (cond t 0 (cond t 0 (suc (seek 61 61 ys)))) (y ∷ ys))
    by more true h = refl
    by more false h = both (eqb x y) _ _ (more (omega arith))

pub word_without : (s w : List ℕ) → length w ≤ seek 61 61 w → word_is s w ≡ false
unfolding word_is seek
word_without s [] h = refl
word_without [] (y ∷ ys) h = by (eqb y 61) refl h
  where
    by : (t : Bool) → eqb y 61 ≡ t → suc (length ys) ≤ cond t 0 (cond t 0 (suc (seek 61 61 ys))) → eqb y 61 ≡ false
    by true e h = absurd (not-suc-le-zero h)
    by false e h = e
word_without (x ∷ xs) (y ∷ ys) h = by (word_without xs ys) (eqb y 61) h
  where
    by : (length ys ≤ seek 61 61 ys → word_is xs ys ≡ false) → (t : Bool) → suc (length ys) ≤ cond t 0 (cond t 0 (suc (seek 61 61 ys))) → cond t false (cond (eqb x y) (word_is xs ys) false) ≡ false
    by more true h = refl
    by more false h = rw (more (omega arith)) (neither (eqb x y))

-- a line and a key, byte by byte
one_more_lem : (a b : ℕ) → ltb (suc a) (suc b) ≡ ltb a b
one_more_lem a b = by (ltb a b) refl
  where
    by : (t : Bool) → ltb a b ≡ t → ltb (suc a) (suc b) ≡ t
    by true e = lt-ltb (suc a) (suc b) (omega (arith, ltb-true a b e))
    by false e = le-ltb (suc a) (suc b) (omega (arith, ltb-false a b e))

module _ (x : ℕ) (xs : List ℕ) (y : ℕ) (ys : List ℕ) where
  differs : (x ≡ y → ⊥) → key_is (x ∷ xs) (y ∷ ys) ≡ false
  unfolding seek word_is
  differs n = by (eqb x 61) refl
    where
      by : (t : Bool) → eqb x 61 ≡ t
          → cond (ltb (cond t 0 (cond t 0 (suc (seek 61 61 xs)))) (suc (length xs)))
          (word_is (take (cond t 0 (cond t 0 (suc (seek 61 61 xs)))) (x ∷ xs)) (y ∷ ys)) false ≡ false
      by true e = simp (ne_eqb y 61 (λ q. n (eqb-true x 61 e ∙ sym q)), neither)
      by false e = simp (ne_eqb x y n, neither)

  ends : x ≡ 61 → y ≡ 61 → key_is (x ∷ xs) (y ∷ ys) ≡ true
  unfolding seek word_is
  ends e f = simp (eq-eqb x 61 e, eq-eqb y 61 f, lt-ltb 0 (suc (length xs)) (omega arith))

  agrees : x ≡ y → (y ≡ 61 → ⊥) → key_is (x ∷ xs) (y ∷ ys) ≡ key_is xs ys
  unfolding seek word_is
  agrees e n = by (eqb x 61) (ne_eqb x 61 (λ q. n (sym e ∙ q)))
    where
      by : (t : Bool) → t ≡ false
          → cond (ltb (cond t 0 (cond t 0 (suc (seek 61 61 xs)))) (suc (length xs)))
          (word_is (take (cond t 0 (cond t 0 (suc (seek 61 61 xs)))) (x ∷ xs)) (y ∷ ys)) false ≡ key_is xs ys
      by true q = absurd (let z : ◌≡◌ {A = ℕ} 0 1 = cc in omega arith)
      by false q = simp (ne_eqb y 61 n, eq-eqb x y e, one_more_lem (seek 61 61 xs) (length xs))

module _ (s w : List ℕ) (i : ℕ) where
  pub key_none : length w ≤ i → key_is (drop i s) (drop i w) ≡ false
  unfolding word_is
  key_none h = rw (drop_of_length-le w {i = i} h) (neither (has 61 (drop i s)))

  pub key_short : length s ≤ i → key_is (drop i s) (drop i w) ≡ false
  unfolding seek
  key_short h = rw (drop_of_length-le s {i = i} h)

  module _ (h : i < length w) (k : i < length s) where
    heads : key_is (drop i s) (drop i w) ≡ key_is (get_or s i 0 ∷ drop (i + 1) s) (get_or w i 0 ∷ drop (i + 1) w)
    heads = rw (left s i k, left w i h)

    pub key_other : (get_or s i 0 ≡ get_or w i 0 → ⊥) → key_is (drop i s) (drop i w) ≡ false
    key_other n = heads ∙ differs (get_or s i 0) (drop (i + 1) s) (get_or w i 0) (drop (i + 1) w) n

    pub key_end : get_or s i 0 ≡ get_or w i 0 → get_or w i 0 ≡ 61 → key_is (drop i s) (drop i w) ≡ true
    key_end e f = heads ∙ ends (get_or s i 0) (drop (i + 1) s) (get_or w i 0) (drop (i + 1) w) (e ∙ f) f

    pub key_on : get_or s i 0 ≡ get_or w i 0 → (get_or w i 0 ≡ 61 → ⊥) → key_is (drop i s) (drop i w) ≡ key_is (drop (i + 1) s) (drop (i + 1) w)
    key_on e n = heads ∙ agrees (get_or s i 0) (drop (i + 1) s) (get_or w i 0) (drop (i + 1) w) e n

-- where the mark first stands, by a search for it
module _ {F : Type 0} {g : Mut F (Bor ℕ × Unit {0}) Bool} {f : F} {s u : Iter ℕ} (m : ℕ) (xs : List ℕ) where
  pub sought : (r : Option ℕ) → iter_rest s ≡ xs
      → (zs : List (Bor ℕ)) × (o : Option (Bor ℕ)) × (j : F) × YieldsThen fronts s zs o u × FoldsTo (λ p x q. Called g p (x, tt) false q) f zs j
      × MatchOption o (r ≡ None) (λ x. (r ≡ Some (length zs)) × ((h : F) × Called g j (x, tt) true h))
      → ((x : Bor ℕ) (q : F) → Called g f (x, tt) true q → x.now ≡ m) → ((x : Bor ℕ) (q : F) → Called g f (x, tt) false q → (q ≡ f) × (x.now ≡ m → ⊥))
      → seek m m xs ≡ unwrap_or r (length xs)
  unfolding seek
  sought r is ran found other =
      index_from_first (seek m m) (λ x. x ≡ m) (λ x. x ≡ m → ⊥) refl (λ x xs e. simp (eq-eqb _ _ e)) (λ x xs n. simp (ne_eqb _ _ n) (omega arith)) xs r
      (IsFirst-from_position u f r (λ x. x ≡ m) (λ x. x ≡ m → ⊥) ran (YieldsList-from_slice xs is) found other)
