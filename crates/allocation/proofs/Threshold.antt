-- The fill places exactly h grains, each unit within its ceiling, and no other split costs less. Each grain placed keeps a
-- threshold: no grain that is placed costs more, and none that has room costs less.
-- Assumes nothing.
use mathlib.Core.Path.{◌≡◌, sym, ◌∙◌, ap}
use mathlib.Core.List.{List}
use Prim.Native.Nat.{ℕ, zero, suc, ◌+◌, ◌*◌, ◌≤◌, ◌<◌}
use native.Mathlib.Nat.{mul-add, mul-suc}
use native.Mathlib.Numerals.{add-one}
use native.Mathlib.Decide.{dec_le, ℕ_discrete}
use native.Mathlib.Omega.{arith}
use borrow.Author.Tests.{lt-ltb, ltb-true, ltb-false}
use lib.Dec.{ltb}
use lib.ListN.{length, length-set, replicate, length-replicate, get_or-replicate}
use lib.Seq.{get_or-set_same, get_or-set_other}
use Rattle.finite.specs.Finite.{sum}
use Rattle.finite.proofs.Sums.{climb, sum_le, sum_raise, sum_zero}
use Rattle.energy.specs.declared.HubGrains.{HubGrains}
use Rattle.std.specs.declared.option.Option.{Option}
use Rattle.std.specs.declared.option.Option.TheVariants.{None as none, Some as at}
use Rattle.allocation.specs.Fill.{grains_at, with_more, next_unit, give, place, fill, cost_of, Cheapest}
use Rattle.allocation.proofs.Best.{Best, Picked, best_is}

-- m grains more for one unit, and the others as they were
module _ (a : List HubGrains) (k m : ℕ) where
  pub more_same : k < length a → grains_at (with_more a k m) k ≡ grains_at a k + m
  more_same l = ap (λ (g : HubGrains). g.0) (get_or-set_same a k (record { 0 = grains_at a k + m }) (record { 0 = 0 }) l)

  pub more_other : (u : ℕ) → (u ≡ k → ⊥) → grains_at (with_more a k m) u ≡ grains_at a u
  more_other u d = ap (λ (g : HubGrains). g.0) (get_or-set_other a k u (record { 0 = grains_at a k + m }) (record { 0 = 0 }) d)

-- grains up to a cost at most p each, those from a up to c at least p: x in the place of a saves at most p for each grain less
against : (f : ℕ → ℕ) (p a c x : ℕ) → ((i : ℕ) → i < a → f i ≤ p) → ((i : ℕ) → a ≤ i → i < c → p ≤ f i) → x ≤ c
    → sum a f + p * x ≤ sum x f + p * a
unfolding sum
against f p a c x low high l = go (dec_le x a)
  where
    go : Dec (x ≤ a) → sum a f + p * x ≤ sum x f + p * a
    go (yes h) =
        climb (λ k. sum k f + p * x ≤ sum x f + p * k) x a h (omega arith) (λ k _ b i. rw mul-suc (omega (arith, i, low k b)))
    go (no h) =
        climb (λ k. sum a f + p * k ≤ sum k f + p * a) a x (omega arith) (omega arith)
        (λ k b b' i. rw mul-suc (omega (arith, i, high k b (omega arith))))

-- the prices of a unit's grains below its ceiling never fall
abbrev pub Rising : (ℕ → ℕ → ℕ) → (ℕ → ℕ) → ℕ → Type 0
Rising price ceiling n = (u i : ℕ) → u < n → suc i < ceiling u → price u i ≤ price u (suc i)

-- each unit's grains cost at most p, and those it has room for at least p
record Level (price : ℕ → ℕ → ℕ) (ceiling : ℕ → ℕ) (n p : ℕ) (x : ℕ → ℕ) : Type 0 where
  within : (u : ℕ) → u < n → x u ≤ ceiling u
  low : (u : ℕ) → u < n → (i : ℕ) → i < x u → price u i ≤ p
  high : (u : ℕ) → u < n → (i : ℕ) → x u ≤ i → i < ceiling u → p ≤ price u i

-- what holds of the fill of h grains
record Filled (price : ℕ → ℕ → ℕ) (ceiling : ℕ → ℕ) (n h : ℕ) (a : List HubGrains) : Type 0 where
  long : length a ≡ n
  threshold : ℕ
  level : Level price ceiling n threshold (grains_at a)
  all : sum n (grains_at a) ≡ h

module _ (price : ℕ → ℕ → ℕ) (ceiling : ℕ → ℕ) (n : ℕ) where
  -- a split with a threshold is a cheapest of its total: by the units below m
  weighed : (p : ℕ) (x y : ℕ → ℕ) → Level price ceiling n p x → ((u : ℕ) → u < n → y u ≤ ceiling u) → (m : ℕ) → m ≤ n
      → cost_of price m x + p * sum m y ≤ cost_of price m y + p * sum m x
  unfolding sum
  weighed p x y h w zero l = omega arith
  weighed p x y h w (suc m) l =
      simp mul-add
      (omega (arith, weighed p x y h w m (omega arith), against (price m) p (x m) (ceiling m) (y m) (h.low m l) (h.high m l) (w m l)))

  module _ (rises : Rising price ceiling n) where
    rising : (u i j : ℕ) → u < n → i ≤ j → j < ceiling u → price u i ≤ price u j
    rising u i j lu l lc =
        climb (λ k. price u i ≤ price u k) i j l (omega arith) (λ k _ b h. omega (arith, h, rises u k lu (omega arith)))

    -- one grain more for the best unit: the threshold is now that grain's price
    module _ (a : List HubGrains) (p k : ℕ) (long : length a ≡ n) (h : Level price ceiling n p (grains_at a))
        (b : Best (λ u. price u (grains_at a u)) (λ u. ltb (grains_at a u) (ceiling u)) n k) where
      room : grains_at a k < ceiling k
      room = ltb-true _ _ b.free

      same : (u : ℕ) → u ≡ k → grains_at (with_more a k 1) u ≡ grains_at a k + 1
      same u e = ap (grains_at (with_more a k 1)) e ∙ more_same a k 1 (omega (arith, b.known))

      other : (u : ℕ) → (u ≡ k → ⊥) → grains_at (with_more a k 1) u ≡ grains_at a u
      other = more_other a k 1

      within : (u : ℕ) → u < n → Dec (u ≡ k) → grains_at (with_more a k 1) u ≤ ceiling u
      within u l (yes e) = omega (arith, same u e, room, ap ceiling e)
      within u l (no d) = omega (arith, other u d, h.within u l)

      low : (u : ℕ) → u < n → Dec (u ≡ k) → (i : ℕ) → i < grains_at (with_more a k 1) u → price u i ≤ price k (grains_at a k)
      low u l (yes e) i q =
          omega (arith, ap (λ (v : ℕ). price v i) e, rising k i (grains_at a k) b.known (omega (arith, same u e)) room)
      low u l (no d) i q =
          omega (arith, h.low u l i (omega (arith, other u d)), h.high k b.known (grains_at a k) (omega arith) room)

      high : (u : ℕ) → u < n → Dec (u ≡ k) → (i : ℕ) → grains_at (with_more a k 1) u ≤ i → i < ceiling u → price k (grains_at a k) ≤ price u i
      high u l (yes e) i q q' =
          omega (arith, ap (λ (v : ℕ). price v i) e, rising k (grains_at a k) i b.known (omega (arith, same u e)) (omega (arith, ap ceiling e)))
      high u l (no d) i q q' =
          let o : grains_at a u ≤ i = omega (arith, other u d) in
          let free : grains_at a u < ceiling u = omega arith in
          omega (arith, b.least u l (lt-ltb _ _ free), rising u (grains_at a u) i l o q')

      raised : Level price ceiling n (price k (grains_at a k)) (grains_at (with_more a k 1))
      raised =
          record {
            within = λ u l. within u l (ℕ_discrete u k);
            low = λ u l. low u l (ℕ_discrete u k);
            high = λ u l. high u l (ℕ_discrete u k);
          }

    onward : (h : ℕ) → suc h ≤ sum n ceiling → (a : List HubGrains) → Filled price ceiling n h a → (q : Option ℕ)
        → Picked (λ u. price u (grains_at a u)) (λ u. ltb (grains_at a u) (ceiling u)) n q → Filled price ceiling n (suc h) (give a q)
    unfolding give
    onward h l a f none b =
        absurd (omega (arith, f.all, sum_le n ceiling (grains_at a) (λ u q. ltb-false (grains_at a u) (ceiling u) (b u q))))
    onward h l a f (at k) b =
        record {
          long = length-set a k (record { 0 = grains_at a k + 1 }) ∙ f.long;
          threshold = price k (grains_at a k);
          level = raised a f.threshold k f.long f.level b;
          all =
              sum_raise n k 1 (grains_at a) (grains_at (with_more a k 1)) b.known (λ u _ d. more_other a k 1 u d)
              (more_same a k 1 (omega (arith, f.long, b.known)))
              ∙ (ap (λ (s : ℕ). s + 1) f.all ∙ add-one h);
        }

    zero_at : (u : ℕ) → u < n → grains_at (replicate n (record { 0 = 0 })) u ≡ 0
    zero_at u q = ap (λ (g : HubGrains). g.0) (get_or-replicate n u (record { 0 = 0 }) (record { 0 = 0 }) q)

    filled : (h : ℕ) → h ≤ sum n ceiling → Filled price ceiling n h (fill price ceiling n h)
    unfolding fill place
    filled zero l =
        record {
          long = length-replicate n (record { 0 = 0 });
          threshold = 0;
          level =
              record {
                within = λ u q. omega (arith, zero_at u q);
                low = λ u q i i'. absurd (omega (arith, zero_at u q));
                high = λ u q i i' i''. omega arith;
              };
          all = sum_zero n (grains_at (replicate n (record { 0 = 0 }))) zero_at;
        }
    filled (suc h) l =
        let b = place price ceiling n h (replicate n (record { 0 = 0 })) in
        onward h l b (filled h (omega arith)) (next_unit price ceiling n b)
        (best_is (λ u. price u (grains_at b u)) (λ u. ltb (grains_at b u) (ceiling u)) n)

    pub fill_cheapest : (h : ℕ) → h ≤ sum n ceiling → Cheapest price ceiling n h (grains_at (fill price ceiling n h))
    fill_cheapest h l =
        let f = filled h l in
        let x = grains_at (fill price ceiling n h) in
        record {
          split = record { within = f.level.within; total = f.all };
          least =
              λ y s.
              let e : sum n y ≡ sum n x = s.total ∙ sym f.all in
              omega (arith, weighed f.threshold x y f.level s.within n (omega arith), ap (λ (t : ℕ). f.threshold * t) e);
        }

  given : (a : List HubGrains) → length a ≡ n → (q : Option ℕ) → length (give a q) ≡ n
  unfolding give
  given a e none = e
  given a e (at k) = length-set a k (record { 0 = grains_at a k + 1 }) ∙ e

  pub fill_length : (h : ℕ) → length (fill price ceiling n h) ≡ n
  unfolding fill place
  fill_length zero = length-replicate n (record { 0 = 0 })
  fill_length (suc h) =
      let b = place price ceiling n h (replicate n (record { 0 = 0 })) in given b (fill_length h) (next_unit price ceiling n b)
