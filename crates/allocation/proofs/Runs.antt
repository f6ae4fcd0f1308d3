-- Several grains at once: while the picked unit has room and its price stays the same, it stays the one that is picked.
-- Assumes nothing.
use mathlib.Core.Bool.{true}
use mathlib.Core.Path.{◌≡◌, refl, sym, subst, ◌∙◌, ap}
use mathlib.Core.List.{List}
use Prim.Native.Nat.{ℕ, zero, suc, ◌+◌, ◌≤◌, ◌<◌}
use native.Mathlib.Nat.{add-zero, add-suc}
use native.Mathlib.Decide.{ℕ_discrete, dec_lt}
use native.Mathlib.Omega.{arith}
use borrow.Author.Tests.{lt-ltb}
use lib.Dec.{ltb}
use lib.ListN.{length, set, replicate, get_or-replicate}
use lib.Seq.{set-set, set-get_or, set_out}
use Rattle.energy.specs.declared.HubGrains.{HubGrains}
use Rattle.std.specs.declared.option.Option.{Option}
use Rattle.std.specs.declared.option.Option.TheVariants.{None as none, Some as at}
use Rattle.allocation.specs.Fill.{grains_at, with_more, next_unit, give, place}
use Rattle.allocation.proofs.Best.{Best, Picked, best_is, best_only}
use Rattle.allocation.proofs.Threshold.{more_same, more_other}

give_most : (a : List HubGrains) (q : Option ℕ) (u : ℕ) → grains_at (give a q) u ≤ grains_at a u + 1
unfolding give
give_most a none u = omega arith
give_most a (at k) u = go (ℕ_discrete u k) (dec_lt k (length a))
  where
    go : Dec (u ≡ k) → Dec (k < length a) → grains_at (with_more a k 1) u ≤ grains_at a u + 1
    go (yes e) (yes l) = subst (λ (v : ℕ). grains_at (with_more a k 1) v ≤ grains_at a v + 1) (sym e) (omega (arith, more_same a k 1 l))
    go (yes e) (no l) = omega (arith, ap (λ (b : List HubGrains). grains_at b u) (set_out a k (record { 0 = grains_at a k + 1 }) (omega arith)))
    go (no d) l = omega (arith, more_other a k 1 u d)

module _ (price : ℕ → ℕ → ℕ) (ceiling : ℕ → ℕ) (n : ℕ) where
  -- no unit has more than is placed
  place_most : (h : ℕ) (a : List HubGrains) (u : ℕ) → grains_at (place price ceiling n h a) u ≤ grains_at a u + h
  unfolding place
  place_most zero a u = omega arith
  place_most (suc h) a u =
      let b = place price ceiling n h a in
      omega (arith, give_most b (next_unit price ceiling n b) u, place_most h a u)

  pub none_over : (h : ℕ) (a : List HubGrains) (u : ℕ) → u < n → a ≡ place price ceiling n h (replicate n (record { 0 = 0 })) → grains_at a u ≤ h
  none_over h a u l e =
      let z = ap (λ (g : HubGrains). g.0) (get_or-replicate n u (record { 0 = 0 }) (record { 0 = 0 }) l) in
      omega (arith, ap (λ (b : List HubGrains). grains_at b u) e, z, place_most h (replicate n (record { 0 = 0 })) u)

  pub place_add : (h m : ℕ) (a : List HubGrains) → place price ceiling n (h + m) a ≡ place price ceiling n m (place price ceiling n h a)
  unfolding place
  place_add h zero a = ap (λ (k : ℕ). place price ceiling n k a) (add-zero h)
  place_add h (suc m) a =
      ap (λ (k : ℕ). place price ceiling n k a) (add-suc h m)
      ∙ ap (λ (b : List HubGrains). give b (next_unit price ceiling n b)) (place_add h m a)

  -- nothing more is placed where no unit has room
  pub place_none : (a : List HubGrains) → next_unit price ceiling n a ≡ none → (m : ℕ) → place price ceiling n m a ≡ a
  unfolding place give
  place_none a e zero = refl
  place_none a e (suc m) = rw (place_none a e m) (rw e)

  pub picked : (a : List HubGrains) (k : ℕ) → next_unit price ceiling n a ≡ at k → Best (λ u. price u (grains_at a u)) (λ u. ltb (grains_at a u) (ceiling u)) n k
  picked a k e =
      subst (λ (q : Option ℕ). Picked (λ u. price u (grains_at a u)) (λ u. ltb (grains_at a u) (ceiling u)) n q) e
      (best_is (λ u. price u (grains_at a u)) (λ u. ltb (grains_at a u) (ceiling u)) n)

  -- with m grains more at one price
  module _ (a : List HubGrains) (k m : ℕ) (len : length a ≡ n) (q : next_unit price ceiling n a ≡ at k) where
    same : grains_at (with_more a k m) k ≡ grains_at a k + m
    same = more_same a k m (omega (arith, (picked a k q).known))

    stays : grains_at a k + m < ceiling k → price k (grains_at a k + m) ≡ price k (grains_at a k) → next_unit price ceiling n (with_more a k m) ≡ at k
    stays room flat =
        best_only (λ u. price u (grains_at (with_more a k m) u)) (λ u. ltb (grains_at (with_more a k m) u) (ceiling u)) n (at k)
        (record {
          known = b.known;
          free = let l : grains_at (with_more a k m) k < ceiling k = omega (arith, same) in lt-ltb _ _ l;
          first = λ j l r. let o = other j (λ e. omega arith) in omega (arith, now, o.1, b.first j l (o.0 r));
          least = λ j l r. least j l r (ℕ_discrete j k);
        })
      where
        b : Best (λ u. price u (grains_at a u)) (λ u. ltb (grains_at a u) (ceiling u)) n k
        b = picked a k q

        now : price k (grains_at (with_more a k m) k) ≡ price k (grains_at a k)
        now = ap (price k) same ∙ flat

        other : (j : ℕ) → (j ≡ k → ⊥)
            → (ltb (grains_at (with_more a k m) j) (ceiling j) ≡ true → ltb (grains_at a j) (ceiling j) ≡ true)
            × (price j (grains_at (with_more a k m) j) ≡ price j (grains_at a j))
        other j d =
            let o = more_other a k m j d in
            (λ r. sym (ap (λ (x : ℕ). ltb x (ceiling j)) o) ∙ r, ap (price j) o)

        least : (j : ℕ) → j < n → ltb (grains_at (with_more a k m) j) (ceiling j) ≡ true → Dec (j ≡ k)
            → price k (grains_at (with_more a k m) k) ≤ price j (grains_at (with_more a k m) j)
        least j l r (yes e) = omega (arith, ap (λ (u : ℕ). price u (grains_at (with_more a k m) u)) e)
        least j l r (no d) = let o = other j d in omega (arith, now, o.1, b.least j l (o.0 r))

    one_more_lem : with_more (with_more a k m) k 1 ≡ with_more a k (suc m)
    one_more_lem =
        let e : grains_at (with_more a k m) k + 1 ≡ grains_at a k + suc m = omega (arith, same) in
        set-set a k (record { 0 = grains_at a k + m }) (record { 0 = grains_at (with_more a k m) k + 1 })
        ∙ ap (λ (x : ℕ). set a k (record { 0 = x })) e

  none_more : (a : List HubGrains) (k : ℕ) → with_more a k 0 ≡ a
  none_more a k = ap (λ (x : ℕ). set a k (record { 0 = x })) (add-zero (grains_at a k)) ∙ set-get_or a k (record { 0 = 0 })

  -- m grains at one price go to the picked unit together
  pub run : (a : List HubGrains) (k : ℕ) → length a ≡ n → next_unit price ceiling n a ≡ at k → (m : ℕ) → grains_at a k + m ≤ ceiling k
      → ((i : ℕ) → i < m → price k (grains_at a k + i) ≡ price k (grains_at a k)) → place price ceiling n m a ≡ with_more a k m
  unfolding place give
  run a k len q zero l flat = sym (none_more a k)
  run a k len q (suc m) l flat =
      rw (run a k len q m (omega arith) (λ i h. flat i (omega arith)))
      (rw (stays a k m len q (omega arith) (flat m (omega arith))) (one_more_lem a k m len q))
