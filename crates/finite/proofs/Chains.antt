-- What a chain over an array or a range gives, in the words of this crate: `from_fn` and `map` make a list by index, and `all` is a
-- test over a range. Each holds because the closure, which changes nothing, is called at one index after the other.
use Rattle.std.proofs.Common.{◌≡◌, sym, ◌∙◌, ap, ℕ, zero, suc, ◌+◌, ◌≤◌, ◌<◌, List, length, get_or, arith, Bool, true, false}
use mathlib.Core.Logic.{⊎_elim}
use native.Mathlib.Nat.{eq-or-lt_of_le}
use lib.Seq.{ext_get_or}
use denote.Param.Members.{Mut, Called}
use Rattle.std.specs.Array.{IsFromFnResultFrom, IsFromFnResult, MapsFrom, IsMapOf}
use Rattle.std.specs.Bool.{MatchBool}
use Rattle.std.specs.List.{AllWithin, HoldsAt, FoldsTo, range_with_len}
use Rattle.std.specs.Option.{MatchOption}
use Rattle.std.specs.Iterator.{YieldsThen}
use Rattle.std.specs.Slice.Iter.{iter_rest}
use Rattle.std.specs.declared.slice.Iter.{Iter}
use Rattle.std.specs.declared.ops.Range.{Range}
use Rattle.std.specs.declared.option.Option.{Option}
use Rattle.std.proofs.iter.Yields.{fronts, nat_range_steps}
use Rattle.std.proofs.lemmas.Iterator.{YieldsList-from_slice, YieldsList-from_range, cases_from_all}
use Rattle.std.proofs.lemmas.List.FromFn.{length-range_with_len, get_or-range_with_len}
use denote.Ref.{Bor}
use Rattle.finite.specs.Finite.{tabulate, every}
use Rattle.finite.proofs.Tests.{every_all, every_fails}
use Rattle.finite.proofs.Tables.{length_tabulate, get_d_tabulate}

module _ {B : Type 0} where
  -- a list with the right entries is the one made by index
  pub tabulated : (n : ℕ) (h : ℕ → B) (ys : List B) → length ys ≡ n → ((i : ℕ) (d : B) → i < n → get_or ys i d ≡ h i) → ys ≡ tabulate n h
  tabulated n h ys long at =
      ext_get_or (h 0) ys (tabulate n h) (long ∙ sym (length_tabulate n h))
      (λ i l. let b : i < n = omega arith in at i (h 0) b ∙ sym (get_d_tabulate n h i (h 0) b))

module _ {F B : Type 0} {g : Mut F (ℕ × Unit {0}) B} {f : F} (h : ℕ → B) (ys : List B) (n : ℕ) where
  from_fn_entries : ((i : ℕ) (y : B) (q : F) → i < n → Called g f (i, tt) y q → (q ≡ f) × (y ≡ h i)) → (m i : ℕ) → i + m ≡ n → IsFromFnResultFrom g f ys i m → (j : ℕ) (d : B) → i ≤ j → j < n → get_or ys j d ≡ h j
  from_fn_entries pure zero i e made j d low high = absurd (omega arith)
  from_fn_entries pure (suc m) i e (q, y, is, ran, more) j d low high =
      let same = pure i y q (omega arith) ran in
      ⊎_elim
      (λ (s : i ≡ j). let p : get_or ys i d ≡ y = is.1 d in rw (← s) (p ∙ same.1))
      (λ (s : i < j). from_fn_entries pure m (i + 1) (omega arith) (rw same.0 at more) j d (omega arith) high)
      (eq-or-lt_of_le low)

  pub tabulate_from_fn : IsFromFnResult g f ys n → ((i : ℕ) (y : B) (q : F) → i < n → Called g f (i, tt) y q → (q ≡ f) × (y ≡ h i)) → ys ≡ tabulate n h
  tabulate_from_fn made pure =
      tabulated n h ys made.long (λ i d l. from_fn_entries pure n 0 (omega arith) made.each i d (omega arith) l)

module _ {F A B : Type 0} {g : Mut F (A × Unit {0}) B} {f : F} (h : A → B) (xs : List A) (ys : List B) (n : ℕ) where
  map_entries : ((x : A) (y : B) (q : F) → Called g f (x, tt) y q → (q ≡ f) × (y ≡ h x)) → (m i : ℕ) → i + m ≡ n → MapsFrom g f xs ys i m → (j : ℕ) (d : A) (c : B) → i ≤ j → j < n → get_or ys j c ≡ h (get_or xs j d)
  map_entries pure zero i e made j d c low high = absurd (omega arith)
  map_entries pure (suc m) i e (q, x, y, from, is, ran, more) j d c low high =
      let same = pure x y q ran in
      ⊎_elim
      (λ (s : i ≡ j). let p : get_or ys i c ≡ y = is.1 c in let k : get_or xs i d ≡ x = from.1 d in rw (← s) (p ∙ same.1 ∙ ap h (sym k)))
      (λ (s : i < j). map_entries pure m (i + 1) (omega arith) (rw same.0 at more) j d c (omega arith) high)
      (eq-or-lt_of_le low)

  pub tabulate_map : (d : A) → IsMapOf g f xs ys n → ((x : A) (y : B) (q : F) → Called g f (x, tt) y q → (q ≡ f) × (y ≡ h x)) → ys ≡ tabulate n (λ k. h (get_or xs k d))
  tabulate_map d made pure =
      tabulated n (λ k. h (get_or xs k d)) ys made.long (λ i c l. map_entries pure n 0 (omega arith) made.each i d c (omega arith) l)

-- what `all` answers of a list is the test over its indices
module _ {A : Type 0} (test : A → Bool) (xs : List A) (n : ℕ) (d : A) where
  pub every_decided : (r : Bool) → length xs ≡ n → MatchBool r (AllWithin (λ x. test x ≡ true) xs 0 (length xs)) ((k : ℕ) × (k < length xs) × HoldsAt (λ x. test x ≡ false) xs k) → r ≡ every n (λ k. test (get_or xs k d))
  every_decided true long all = sym (every_all n (λ k. test (get_or xs k d)) (λ k l. all k d (omega arith) (omega arith)))
  every_decided false long (k, below, fails) = sym (every_fails n k (λ k. test (get_or xs k d)) (omega arith) (fails d))

module _ {F : Type 0} {A : Type 0} {g : Mut F (Bor A × Unit {0}) Bool} {f : F} {s u : Iter A} (test : A → Bool) (xs : List A) (n : ℕ) (d : A) where
  pub every_slice : (r : Bool) → iter_rest s ≡ xs → length xs ≡ n
      → (zs : List (Bor A)) × (o : Option (Bor A)) × (j : F) × YieldsThen fronts s zs o u × FoldsTo (λ p x q. Called g p (x, tt) true q) f zs j × MatchOption o (r ≡ true) (λ x. (r ≡ false) × ((h : F) × Called g j (x, tt) false h))
      → ((x : Bor A) (y : Bool) (q : F) → Called g f (x, tt) y q → (q ≡ f) × (y ≡ test x.now)) → r ≡ every n (λ k. test (get_or xs k d))
  every_slice r is long ran pure =
      every_decided test xs n d r long
      (cases_from_all u f r (λ x. test x ≡ true) (λ x. test x ≡ false) ran (YieldsList-from_slice xs is)
      (λ x q c. let p = pure x true q c in (p.0, sym p.1)) (λ x q c. sym (pure x false q c).1))

module _ {F : Type 0} {g : Mut F (ℕ × Unit {0}) Bool} {f : F} {s u : Range ℕ} (test : ℕ → Bool) (n : ℕ) where
  pub every_range : (r : Bool) → s ≡ record { start = 0; end = n }
      → (zs : List ℕ) × (o : Option ℕ) × (j : F) × YieldsThen nat_range_steps s zs o u × FoldsTo (λ p x q. Called g p (x, tt) true q) f zs j × MatchOption o (r ≡ true) (λ x. (r ≡ false) × ((h : F) × Called g j (x, tt) false h))
      → ((x : ℕ) (y : Bool) (q : F) → Called g f (x, tt) y q → (q ≡ f) × (y ≡ test x)) → r ≡ every n test
  every_range r is ran pure =
      ranged r (cases_from_all u f r (λ x. test x ≡ true) (λ x. test x ≡ false) ran (YieldsList-from_range 0 n n is (omega arith))
      (λ x q c. let p = pure x true q c in (p.0, sym p.1)) (λ x q c. sym (pure x false q c).1))
    where
      at : (k : ℕ) → k < n → get_or (range_with_len 0 n) k 0 ≡ k
      at k l = get_or-range_with_len 0 n k 0 l ∙ omega arith

      ranged : (r : Bool) → MatchBool r (AllWithin (λ x. test x ≡ true) (range_with_len 0 n) 0 (length (range_with_len 0 n))) ((k : ℕ) × (k < length (range_with_len 0 n)) × HoldsAt (λ x. test x ≡ false) (range_with_len 0 n) k) → r ≡ every n test
      ranged true all = sym (every_all n test (λ k l. rw (at k l) at (all k 0 (omega arith) (omega (arith, length-range_with_len 0 n)))))
      ranged false (k, below, fails) = let l : k < n = omega (arith, length-range_with_len 0 n) in sym (every_fails n k test l (rw (at k l) at (fails 0)))
