-- What the shares are: as many as the parts; they add up to the total; each is its quotient or one more; a weight of 0 gets 0.
-- Quotients times the divisor, and the remainders, make the total times the divisor, so what the quotients leave is what the
-- remainders hold of whole divisors.
-- Assumes nothing.
use mathlib.Core.Path.{◌≡◌, sym, ◌∙◌, ap}
use mathlib.Core.List.{List}
use Prim.Native.Nat.{ℕ, zero, suc, ◌+◌, ◌*◌, ◌/◌, ◌%◌, ◌≤◌, ◌<◌}
use native.Mathlib.Nat.{add-mul, mul-zero, mod-lt, div-add-mod', le_of_mul-le-mul_right, zero-mod, zero-div}
use native.Mathlib.Decide.{dec_lt}
use native.Mathlib.Omega.{arith}
use borrow.Author.Tests.{ne_eqb, eq-eqb}
use lib.ListN.{length, get_or, replicate, length-replicate, get_or-replicate}
use lib.Seq.{get_or-set_same}
use Rattle.finite.specs.Finite.{sum, tabulate}
use Rattle.finite.proofs.Sums.{sum_div, sum_mul, sum_has}
use Rattle.apportion.specs.Shares.{sum_of, quotient, remainder, left, shares, add_ones, largest, one_more}
use Rattle.apportion.proofs.Ones.{Added, all_added, largest_below, add_ones_next}

-- a sum over 0 has a part
pub some_part : (n : ℕ) (f : ℕ → ℕ) → 0 < sum n f → 0 < n
unfolding sum
some_part zero f h = h
some_part (suc n) f h = omega arith

module _ (w : List ℕ) (total : ℕ) where
  -- all weights 0: all shares 0
  pub shares_zero : sum_of w ≡ 0 → shares w total ≡ replicate (length w) 0
  unfolding shares
  shares_zero e = simp (eq-eqb _ _ e)

  module _ (some : 0 < sum_of w) where
    parts : sum (length w) (quotient (sum_of w) total w) * sum_of w + sum (length w) (remainder (sum_of w) total w) ≡ total * sum_of w
    parts =
        sum_div (length w) (sum_of w) (quotient (sum_of w) total w) (remainder (sum_of w) total w) (λ i. total * get_or w i 0)
        (λ i l. div-add-mod' (total * get_or w i 0) (sum_of w))
        ∙ sum_mul (length w) total (λ i. get_or w i 0)

    pub quotients_le : sum (length w) (quotient (sum_of w) total w) ≤ total
    quotients_le = le_of_mul-le-mul_right {k = sum_of w} (omega (arith, parts)) some

    remainders : sum (length w) (remainder (sum_of w) total w) ≡ left w total * sum_of w
    remainders =
        let s = sum (length w) (quotient (sum_of w) total w) in
        let e : s + left w total ≡ total = omega (arith, quotients_le) in
        let m : s * sum_of w + left w total * sum_of w ≡ total * sum_of w = sym (add-mul s (left w total) (sum_of w)) ∙ ap (λ (x : ℕ). x * sum_of w) e in
        omega (arith, parts)

    after : (h : ℕ) → h ≤ left w total → Added (quotient (sum_of w) total w) (remainder (sum_of w) total w) (length w) (sum_of w) (left w total) h
        (add_ones (quotient (sum_of w) total w) (remainder (sum_of w) total w) (length w) h (tabulate (length w) (quotient (sum_of w) total w)))
    after h l =
        all_added (quotient (sum_of w) total w) (remainder (sum_of w) total w) (length w) (sum_of w) (left w total)
        (λ i k. mod-lt (total * get_or w i 0) some) remainders h l (some_part (length w) (λ i. get_or w i 0) some)

    -- a share that gets one more stays within the total
    pub room : (h : ℕ) → h < left w total
        → let a = add_ones (quotient (sum_of w) total w) (remainder (sum_of w) total w) (length w) h (tabulate (length w) (quotient (sum_of w) total w)) in
        let b = largest (quotient (sum_of w) total w) (remainder (sum_of w) total w) a (length w) in
        (length a ≡ length w) × (b < length w) × (get_or a b 0 + 1 ≤ total)
    room h l =
        let q = quotient (sum_of w) total w in
        let r = remainder (sum_of w) total w in
        let a = add_ones q r (length w) h (tabulate (length w) q) in
        let b = largest q r a (length w) in
        let k : b < length w = largest_below q r a (length w) (some_part (length w) (λ i. get_or w i 0) some) in
        let s = after (h + 1) (omega arith) in
        let long = (after h (omega arith)).long in
        let m : get_or (one_more a b) b 0 ≤ sum (length w) (λ i. get_or (one_more a b) i 0) = omega (arith, sum_has (length w) b (λ i. get_or (one_more a b) i 0) k) in
        let e : sum (length w) (λ i. get_or (one_more a b) i 0) ≡ sum (length w) q + (h + 1) = rw (← add_ones_next q r (length w) h (tabulate (length w) q)) s.added in
        let g : get_or (one_more a b) b 0 ≡ get_or a b 0 + 1 = get_or-set_same a b (get_or a b 0 + 1) 0 (omega (arith, long)) in
        (long, k, omega (arith, quotients_le))

    shared : Added (quotient (sum_of w) total w) (remainder (sum_of w) total w) (length w) (sum_of w) (left w total) (left w total) (shares w total)
    unfolding shares
    shared = simp (ne_eqb (sum_of w) 0 (λ e. omega arith)) (after (left w total) (omega arith))

    -- the shares add up to the total
    pub shares_total : sum (length w) (λ i. get_or (shares w total) i 0) ≡ total
    shares_total = omega (arith, shared.added, quotients_le)

    -- each is its quotient or one more
    pub share_least : (i : ℕ) → i < length w → quotient (sum_of w) total w i ≤ get_or (shares w total) i 0
    share_least = shared.least

    pub share_most : (i : ℕ) → i < length w → get_or (shares w total) i 0 ≤ quotient (sum_of w) total w i + 1
    share_most = shared.most

  -- there are as many shares as weights
  pub shares_length : length (shares w total) ≡ length w
  shares_length = go (dec_lt 0 (sum_of w))
    where
      go : Dec (0 < sum_of w) → length (shares w total) ≡ length w
      go (yes some) = (shared some).long
      go (no none) = ap length (shares_zero (omega arith)) ∙ length-replicate (length w) 0

  zero_at : sum_of w ≡ 0 → (i : ℕ) → i < length w → get_or (shares w total) i 0 ≡ 0
  zero_at e i l = ap (λ s. get_or s i 0) (shares_zero e) ∙ get_or-replicate (length w) i 0 0 l

  -- a weight of 0 gets 0
  pub share_none : (i : ℕ) → i < length w → get_or w i 0 ≡ 0 → get_or (shares w total) i 0 ≡ 0
  share_none i l e = go (dec_lt 0 (sum_of w))
    where
      z : total * get_or w i 0 ≡ 0
      z = ap (λ (x : ℕ). total * x) e ∙ mul-zero total

      go : Dec (0 < sum_of w) → get_or (shares w total) i 0 ≡ 0
      go (yes some) = (shared some).none i l (ap (λ (x : ℕ). x % sum_of w) z ∙ zero-mod (sum_of w)) ∙ (ap (λ (x : ℕ). x / sum_of w) z ∙ zero-div (sum_of w))
      go (no none) = zero_at (omega arith) i l

  -- no share is over the total
  pub share_within : (i : ℕ) → i < length w → get_or (shares w total) i 0 ≤ total
  share_within i l = go (dec_lt 0 (sum_of w))
    where
      go : Dec (0 < sum_of w) → get_or (shares w total) i 0 ≤ total
      go (yes some) = omega (arith, sum_has (length w) i (λ i. get_or (shares w total) i 0) l, shares_total some)
      go (no none) = omega (arith, zero_at (omega arith) i l)
