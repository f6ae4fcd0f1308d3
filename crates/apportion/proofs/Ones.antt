-- One more to the largest remainder, again and again. While some is due, the remainders left add up to at least the divisor, so the
-- largest is over 0: no part gets a second one, and none gets one without a remainder.
-- Assumes nothing.
use mathlib.Core.Path.{◌≡◌, refl, sym, subst, ◌∙◌, ap}
use mathlib.Core.Bool.{Bool, true, false, cond}
use mathlib.Core.List.{List}
use Prim.Native.Nat.{ℕ, zero, suc, ◌+◌, ◌*◌, ◌≤◌, ◌<◌}
use native.Mathlib.Nat.{suc-mul, mul-le-mul_right, zero-mul, not-suc-le-zero}
use native.Mathlib.Decide.{dec_le, ℕ_discrete}
use native.Mathlib.Numerals.{add-one}
use native.Mathlib.Omega.{arith}
use borrow.Author.Tests.{eqb-true, ne_eqb, eq-eqb, ltb-true, ltb-false, lt-ltb, le-ltb}
use lib.Dec.{eqb, ltb}
use lib.ListN.{length, get_or, length-set}
use lib.Seq.{get_or-set_same, get_or-set_other}
use Rattle.finite.specs.Finite.{sum, tabulate}
use Rattle.finite.proofs.Sums.{extend, sum_same, sum_raise, sum_zero}
use Rattle.finite.proofs.Tables.{length_tabulate, get_d_tabulate}
use Rattle.apportion.specs.Shares.{remainder_left, larger, largest, one_more, add_ones}

module _ (q r : ℕ → ℕ) (a : List ℕ) where
  -- the larger of two parts is one of them, and neither has more
  module _ (b i : ℕ) where
    chosen : (P : ℕ → Type 0) → P i → P b → P (larger q r a b i)
    chosen P p p' = go (ltb (remainder_left q r a b) (remainder_left q r a i))
      where
        go : (t : Bool) → P (cond t i b)
        go true = p
        go false = p'

    most : (remainder_left q r a b ≤ remainder_left q r a (larger q r a b i)) × (remainder_left q r a i ≤ remainder_left q r a (larger q r a b i))
    most = go (ltb (remainder_left q r a b) (remainder_left q r a i)) refl
      where
        go : (t : Bool) → ltb (remainder_left q r a b) (remainder_left q r a i) ≡ t
            → (remainder_left q r a b ≤ remainder_left q r a (cond t i b)) × (remainder_left q r a i ≤ remainder_left q r a (cond t i b))
        go true e = (omega (arith, ltb-true (remainder_left q r a b) (remainder_left q r a i) e), omega arith)
        go false e = (omega arith, ltb-false (remainder_left q r a b) (remainder_left q r a i) e)

  largest_in : (n : ℕ) → largest q r a (suc n) ≤ n
  unfolding largest
  largest_in zero = chosen 0 0 (λ b. b ≤ 0) (omega arith) (omega arith)
  largest_in (suc n) = chosen (largest q r a (suc n)) (suc n) (λ b. b ≤ suc n) (omega arith) (omega (arith, largest_in n))

  pub largest_below : (n : ℕ) → 0 < n → largest q r a n < n
  largest_below zero l = absurd (not-suc-le-zero l)
  largest_below (suc n) l = omega (arith, largest_in n)

  largest_most : (n j : ℕ) → j < n → remainder_left q r a j ≤ remainder_left q r a (largest q r a n)
  unfolding largest
  largest_most zero j l = absurd (not-suc-le-zero l)
  largest_most (suc n) j l =
      let m = most (largest q r a n) n in
      extend (λ j. remainder_left q r a j ≤ remainder_left q r a (largest q r a (suc n))) n
      (λ j l. omega (arith, largest_most n j l, m)) m.1 j l

  pub largest_one : largest q r a 1 ≡ 0
  largest_one = omega (arith, largest_in 0)

  -- one part more, by a test
  module _ (n b : ℕ) (e : b ≡ largest q r a n) where
    next : largest q r a (n + 1) ≡ larger q r a b n
    unfolding largest
    next = ap (largest q r a) (add-one n) ∙ ap (λ (x : ℕ). larger q r a x n) (sym e)

    pub replaced : remainder_left q r a b < remainder_left q r a n → n ≡ largest q r a (n + 1)
    replaced l = sym (next ∙ simp (lt-ltb _ _ l))

    pub kept : remainder_left q r a n ≤ remainder_left q r a b → b ≡ largest q r a (n + 1)
    kept l = sym (next ∙ simp (le-ltb _ _ l))

over_zero : (t : Bool) (x : ℕ) → 0 < cond t x 0 → t ≡ true
over_zero true x h = refl
over_zero false x h = absurd (omega arith)

-- after h times: H is how many are due in all, W the divisor
pub record Added (q r : ℕ → ℕ) (n W H h : ℕ) (a : List ℕ) : Type 0 where
  pub long : length a ≡ n
  pub least : (i : ℕ) → i < n → q i ≤ get_or a i 0
  pub most : (i : ℕ) → i < n → get_or a i 0 ≤ q i + 1
  pub none : (i : ℕ) → i < n → r i ≡ 0 → get_or a i 0 ≡ q i
  pub added : sum n (λ i. get_or a i 0) ≡ sum n q + h
  pub due : H * W ≤ sum n (remainder_left q r a) + h * W

module _ (q r : ℕ → ℕ) (n W H : ℕ) (below : (i : ℕ) → i < n → r i < W) (all : sum n r ≡ H * W) where
  begun : Added q r n W H 0 (tabulate n q)
  begun =
      let e : (i : ℕ) → i < n → get_or (tabulate n q) i 0 ≡ q i = λ i l. get_d_tabulate n q i 0 l in
      record {
        long = length_tabulate n q;
        least = λ i l. omega (arith, e i l);
        most = λ i l. omega (arith, e i l);
        none = λ i l z. e i l;
        added = omega (arith, sum_same n (λ i. get_or (tabulate n q) i 0) q e);
        due = rw zero-mul (omega (arith, all, sum_same n (remainder_left q r (tabulate n q)) r (λ i l. simp (eq-eqb _ _ (e i l)))));
      }

  module _ (h : ℕ) (a : List ℕ) (s : Added q r n W H h a) (some : h < H) where
    over : 0 < W → 0 < remainder_left q r a (largest q r a n)
    over w = go (dec_le (remainder_left q r a (largest q r a n)) 0)
      where
        go : Dec (remainder_left q r a (largest q r a n) ≤ 0) → 0 < remainder_left q r a (largest q r a n)
        go (no x) = omega arith
        go (yes x) =
            let due : W ≤ sum n (remainder_left q r a) = omega (arith, s.due, simp suc-mul at (mul-le-mul_right W some)) in
            absurd (omega (arith, sum_zero n (remainder_left q r a) (λ i l. omega (arith, largest_most q r a n i l))))

    module _ (b : ℕ) (l : b < n) (w : 0 < remainder_left q r a b) where
      quotient_alone : get_or a b 0 ≡ q b
      quotient_alone = eqb-true (get_or a b 0) (q b) (over_zero (eqb (get_or a b 0) (q b)) (r b) w)

      before : remainder_left q r a b ≡ r b
      before = simp (eq-eqb _ _ quotient_alone)

      same : get_or (one_more a b) b 0 ≡ get_or a b 0 + 1
      same = get_or-set_same a b (get_or a b 0 + 1) 0 (omega (arith, s.long))

      other : (i : ℕ) → (i ≡ b → ⊥) → get_or (one_more a b) i 0 ≡ get_or a i 0
      other i e = get_or-set_other a b i (get_or a b 0 + 1) 0 e

      after : remainder_left q r (one_more a b) b ≡ 0
      after = simp (ne_eqb (get_or (one_more a b) b 0) (q b) (λ e. omega (arith, same, quotient_alone)))

      others : (i : ℕ) → (i ≡ b → ⊥) → remainder_left q r a i ≡ remainder_left q r (one_more a b) i
      others i e = ap (λ (x : ℕ). cond (eqb x (q i)) (r i) 0) (sym (other i e))

      by : (P : ℕ → Type 0) → P b → ((i : ℕ) → i < n → (i ≡ b → ⊥) → P i) → (i : ℕ) → i < n → P i
      by P at rest i k = go (ℕ_discrete i b)
        where
          go : Dec (i ≡ b) → P i
          go (yes e) = subst P (sym e) at
          go (no e) = rest i k e

      one_added : Added q r n W H (suc h) (one_more a b)
      one_added =
          record {
            long = simp length-set s.long;
            least = by (λ i. q i ≤ get_or (one_more a b) i 0) (omega (arith, same, quotient_alone)) (λ i k e. omega (arith, other i e, s.least i k));
            most = by (λ i. get_or (one_more a b) i 0 ≤ q i + 1) (omega (arith, same, quotient_alone)) (λ i k e. omega (arith, other i e, s.most i k));
            none = by (λ i. r i ≡ 0 → get_or (one_more a b) i 0 ≡ q i) (λ z. absurd (omega (arith, before))) (λ i k e z. other i e ∙ s.none i k z);
            added = omega (arith, s.added, sum_raise n b 1 (λ i. get_or a i 0) (λ i. get_or (one_more a b) i 0) l (λ i k e. other i e) same);
            due = rw suc-mul (omega (arith, s.due, below b l, sum_raise n b (r b) (remainder_left q r (one_more a b)) (remainder_left q r a) l (λ i k e. others i e) (omega (arith, after, before))));
          }

  pub all_added : (h : ℕ) → h ≤ H → 0 < n → Added q r n W H h (add_ones q r n h (tabulate n q))
  unfolding add_ones
  all_added zero l p = begun
  all_added (suc h) l p =
      let a = add_ones q r n h (tabulate n q) in
      let s = all_added h (omega arith) p in
      let k = largest_below q r a n p in
      one_added h a s l (largest q r a n) k (over h a s l (omega (arith, below (largest q r a n) k)))

pub add_ones_next : (q r : ℕ → ℕ) (n h : ℕ) (a : List ℕ) → add_ones q r n (h + 1) a ≡ one_more (add_ones q r n h a) (largest q r (add_ones q r n h a) n)
unfolding add_ones
add_ones_next q r n h a = ap (λ (k : ℕ). add_ones q r n k a) (add-one h)
