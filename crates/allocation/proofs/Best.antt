-- What `best` picks: a unit with room whose next grain is cheaper than that of each lower unit with room, and no dearer than that of
-- any. There is at most one such unit, so prices that agree on the units with room give the same pick.
-- Assumes nothing.
use mathlib.Core.Path.{◌≡◌, refl, sym, subst, ◌∙◌, ap}
use mathlib.Core.Bool.{Bool, true, false, true≢false, cond}
use Prim.Native.Nat.{ℕ, zero, suc, ◌≤◌, ◌<◌}
use native.Mathlib.Nat.{not-suc-le-zero}
use native.Mathlib.Decide.{dec_lt}
use native.Mathlib.Omega.{arith}
use borrow.Author.Tests.{ltb-true, ltb-false}
use lib.Dec.{ltb}
use Rattle.finite.proofs.Sums.{extend}
use Rattle.std.specs.declared.option.Option.{Option}
use Rattle.std.specs.declared.option.Option.TheVariants.{None as none, Some as at}
use Rattle.allocation.specs.Fill.{better, best}

pub record Best (next : ℕ → ℕ) (room : ℕ → Bool) (n k : ℕ) : Type 0 where
  pub known : k < n
  pub free : room k ≡ true
  pub first : (j : ℕ) → j < k → room j ≡ true → next k < next j
  pub least : (j : ℕ) → j < n → room j ≡ true → next k ≤ next j

abbrev pub Picked : (ℕ → ℕ) → (ℕ → Bool) → ℕ → Option ℕ → Type 0
Picked next room n none = (j : ℕ) → j < n → room j ≡ false
Picked next room n (at k) = Best next room n k

module _ (next : ℕ → ℕ) (room : ℕ → Bool) (n : ℕ) where
  weigh : (k : ℕ) → room n ≡ true → Best next room n k → (t : Bool) → ltb (next n) (next k) ≡ t → Picked next room (suc n) (cond t (at n) (at k))
  weigh k r h true e =
      let l : next n < next k = ltb-true _ _ e in
      record {
        known = omega arith;
        free = r;
        first = λ j q rj. omega (arith, h.least j q rj);
        least = extend (λ j. room j ≡ true → next n ≤ next j) n (λ j q rj. omega (arith, h.least j q rj)) (λ _. omega arith);
      }
  weigh k r h false e =
      record {
        known = omega (arith, h.known);
        free = h.free;
        first = h.first;
        least = extend (λ j. room j ≡ true → next k ≤ next j) n h.least (λ _. ltb-false _ _ e);
      }

  turn : (q : Option ℕ) → Picked next room n q → (t : Bool) → room n ≡ t → Picked next room (suc n) (cond t (better next q n) q)
  unfolding better
  turn none h true e =
      let none_below : (j : ℕ) → j < n → room j ≡ true → next n < next j = λ j q rj. absurd (true≢false (sym rj ∙ h j q)) in
      record {
        known = omega arith;
        free = e;
        first = none_below;
        least = extend (λ j. room j ≡ true → next n ≤ next j) n (λ j q rj. omega (arith, none_below j q rj)) (λ _. omega arith);
      }
  turn none h false e = extend (λ j. room j ≡ false) n h e
  turn (at k) h true e = weigh k e h (ltb (next n) (next k)) refl
  turn (at k) h false e =
      record {
        known = omega (arith, h.known);
        free = h.free;
        first = h.first;
        least = extend (λ j. room j ≡ true → next k ≤ next j) n h.least (λ rj. absurd (true≢false (sym rj ∙ e)));
      }

module _ (next : ℕ → ℕ) (room : ℕ → Bool) where
  pub best_is : (n : ℕ) → Picked next room n (best next room n)
  unfolding best
  best_is zero = λ j l. absurd (not-suc-le-zero l)
  best_is (suc n) = turn next room n (best next room n) (best_is n) (room n) refl

  one_best : (n : ℕ) (q r : Option ℕ) → Picked next room n q → Picked next room n r → q ≡ r
  one_best n none none h h' = refl
  one_best n none (at k) h h' = absurd (true≢false (sym h'.free ∙ h k h'.known))
  one_best n (at k) none h h' = absurd (true≢false (sym h.free ∙ h' k h.known))
  one_best n (at k) (at j) h h' = ap at (go (dec_lt j k) (dec_lt k j))
    where
      go : Dec (j < k) → Dec (k < j) → k ≡ j
      go (yes q) d = absurd (omega (arith, h.first j q h'.free, h'.least k h.known h.free))
      go (no q) (yes q') = absurd (omega (arith, h'.first k q' h.free, h.least j h'.known h'.free))
      go (no q) (no q') = omega arith

  pub best_only : (n : ℕ) (q : Option ℕ) → Picked next room n q → best next room n ≡ q
  best_only n q h = one_best n _ q (best_is n) h

  pub best_below : (n u : ℕ) → best next room n ≡ at u → u < n
  best_below n u e = let b : Best next room n u = subst (Picked next room n) e (best_is n) in b.known

-- prices that agree on the units with room
pub best_same : (next next' : ℕ → ℕ) (room : ℕ → Bool) (n : ℕ) → ((u : ℕ) → u < n → room u ≡ true → next u ≡ next' u)
    → best next room n ≡ best next' room n
best_same next next' room n same = best_only next room n (best next' room n) (by (best next' room n) (best_is next' room n))
  where
    by : (q : Option ℕ) → Picked next' room n q → Picked next room n q
    by none h = h
    by (at k) h =
        let e = same k h.known h.free in
        record {
          known = h.known;
          free = h.free;
          first = λ j l r. omega (arith, e, same j (omega (arith, h.known)) r, h.first j l r);
          least = λ j l r. omega (arith, e, same j l r, h.least j l r);
        }

-- the same rooms
pub best_rooms : (next : ℕ → ℕ) (room room' : ℕ → Bool) (n : ℕ) → ((u : ℕ) → u < n → room u ≡ room' u) → best next room n ≡ best next room' n
unfolding best
best_rooms next room room' zero same = refl
best_rooms next room room' (suc n) same = rw (best_rooms next room room' n (λ u l. same u (omega arith)), same n (omega arith)) refl
