-- A round of the fill's code: the unit whose next block is cheapest is the one that gets the next grain, since a block's price is its first
-- grain's; the block's grains then go to it together, and only its own next block changes.
-- Assumes nothing.
use mathlib.Core.Path.{◌≡◌, refl, sym, subst, ◌∙◌, ap, ap₂}
use mathlib.Core.Bool.{Bool, true, false}
use mathlib.Core.List.{List}
use Prim.Native.Nat.{ℕ, ◌+◌, ◌-◌, ◌<◌, ◌≤◌}
use native.Mathlib.Numerals.{add-one}
use native.Mathlib.Decide.{ℕ_discrete}
use native.Mathlib.Omega.{arith}
use borrow.Author.Tests.{lt-ltb, le-ltb, ltb-true}
use lib.Dec.{ltb}
use lib.ListN.{length, length-set, get_or, set}
use lib.Seq.{get_or-set_same, get_or-set_other}
use Rattle.finite.proofs.Tables.{length_tabulate, get_d_tabulate}
use Rattle.finite.proofs.Chains.{tabulated}
use Rattle.energy.specs.declared.HubGrains.{HubGrains}
use Rattle.offer.specs.Modified.{IsBlock}
use Rattle.std.specs.declared.option.Option.{Option}
use Rattle.std.specs.declared.option.Option.TheVariants.{None as none, Some as at}
use Rattle.allocation.specs.Fill.{grains_at, with_more, better, best, next_unit, place}
use Rattle.allocation.specs.declared.PlantUnit.{PlantUnit}
use Rattle.allocation.specs.declared.Filling.{Filling}
use Rattle.allocation.specs.Allocation.{past_unit, prices_of}
use Rattle.allocation.specs.Blocks.{priced, no_filling, filling_at, next_price, has_room, given, Fillings}
use Rattle.allocation.proofs.Best.{best_same, best_rooms}
use Rattle.allocation.proofs.Runs.{place_add, picked, run}

-- the better of two units, by the code's tests
module _ (next : ℕ → ℕ) (v : ℕ) where
  pub better_first : (q : Option ℕ) → priced next q ≡ none → at (v, next v) ≡ priced next (better next q v)
  unfolding better
  better_first none e = refl
  better_first (at u) e = absurd (let z : ◌≡◌ {A = ℕ} 0 1 = cc in omega arith)

  pub better_new : (q : Option ℕ) (u low : ℕ) → priced next q ≡ at (u, low) → next v < low → at (v, next v) ≡ priced next (better next q v)
  unfolding better
  better_new none u low e l = absurd (let z : ◌≡◌ {A = ℕ} 0 1 = cc in omega arith)
  better_new (at w) u low e l = let p : ◌≡◌ {A = ℕ × ℕ} (w, next w) (u, low) = cc in let i : next w ≡ low = ap (λ (x : ℕ × ℕ). x.1) p in rw (lt-ltb (next v) (next w) (omega arith))

  pub better_kept : (q : Option ℕ) (u low : ℕ) → priced next q ≡ at (u, low) → low ≤ next v → at (u, low) ≡ priced next (better next q v)
  unfolding better
  better_kept none u low e l = absurd (let z : ◌≡◌ {A = ℕ} 0 1 = cc in omega arith)
  better_kept (at w) u low e l = let p : ◌≡◌ {A = ℕ × ℕ} (w, next w) (u, low) = cc in let i : next w ≡ low = ap (λ (x : ℕ × ℕ). x.1) p in rw (le-ltb (next v) (next w) (omega arith)) (sym e)

-- one unit more
module _ (next : ℕ → ℕ) (room : ℕ → Bool) (n : ℕ) where
  pub best_free : room n ≡ true → better next (best next room n) n ≡ best next room (n + 1)
  unfolding best
  best_free e = rw add-one (rw e)

  pub best_full : room n ≡ false → best next room n ≡ best next room (n + 1)
  unfolding best
  best_full e = rw add-one (rw e)

-- one unit's place in the fill replaced
module _ (fs : List Filling) (u : ℕ) (f : Filling) (long : length fs ≡ 8) (l : u < 8) where
  filling_same : filling_at (set fs u f) u ≡ f
  filling_same = get_or-set_same fs u f no_filling (omega (arith, long))

  filling_other : (v : ℕ) → (v ≡ u → ⊥) → filling_at (set fs u f) v ≡ filling_at fs v
  filling_other v d = get_or-set_other fs u v f no_filling d

  -- what holds of the new one, and of each other one
  pub replaced : (P : ℕ → Filling → Type 0) → P u f → ((v : ℕ) → v < 8 → (v ≡ u → ⊥) → P v (filling_at fs v)) → (v : ℕ) → v < 8 → P v (filling_at (set fs u f) v)
  replaced P h others v m = go (ℕ_discrete v u)
    where
      go : Dec (v ≡ u) → P v (filling_at (set fs u f) v)
      go (yes e) = subst (λ (v : ℕ). P v (filling_at (set fs u f) v)) (sym e) (subst (P u) (sym filling_same) h)
      go (no d) = subst (P v) (sym (filling_other v d)) (others v m d)

  pub given_set : given (set fs u f) ≡ set (given fs) u f.energy
  given_set =
      sym
      (tabulated 8 (λ k. (filling_at (set fs u f) k).energy) (set (given fs) u f.energy)
      (length-set (given fs) u f.energy ∙ length_tabulate 8 (λ k. (filling_at fs k).energy))
      (λ i d m. go i d m (ℕ_discrete i u)))
    where
      go : (i : ℕ) (d : HubGrains) → i < 8 → Dec (i ≡ u) → get_or (set (given fs) u f.energy) i d ≡ (filling_at (set fs u f) i).energy
      go i d m (yes e) =
          subst (λ (i : ℕ). get_or (set (given fs) u f.energy) i d ≡ (filling_at (set fs u f) i).energy) (sym e)
          (get_or-set_same (given fs) u f.energy d (omega (arith, length_tabulate 8 (λ k. (filling_at fs k).energy)))
          ∙ ap (λ (f : Filling). f.energy) (sym filling_same))
      go i d m (no e) =
          get_or-set_other (given fs) u i f.energy d e
          ∙ get_d_tabulate 8 (λ k. (filling_at fs k).energy) i d m
          ∙ ap (λ (f : Filling). f.energy) (sym (filling_other i e))

module _ (units : List PlantUnit) (ceilings : List HubGrains) (fs : List Filling) (has : Fillings units ceilings fs) where
  abbrev pub a : List HubGrains
  a = given fs

  pub given_at : (u : ℕ) → u < 8 → grains_at a u ≡ (filling_at fs u).energy.0
  given_at u l = ap (λ (g : HubGrains). g.0) (get_d_tabulate 8 (λ k. (filling_at fs k).energy) u (record { 0 = 0 }) l)

  pub ceiling_at : (u : ℕ) → u < 8 → (filling_at fs u).ceiling.0 ≡ grains_at ceilings u
  ceiling_at u l = ap (λ (g : HubGrains). g.0) (has u l).0

  -- the cheapest next block is that of the unit that gets the next grain
  pub same_pick : best (next_price fs) (has_room fs) 8 ≡ next_unit (prices_of units) (grains_at ceilings) 8 a
  same_pick =
      best_same (next_price fs) (λ u. prices_of units u (grains_at a u)) (has_room fs) 8
      (λ u l r.
      let b = (has u l).1 (ltb-true _ _ r) in
      sym (ap (prices_of units u) (given_at u l) ∙ b.flat (filling_at fs u).energy.0 (omega arith) b.past))
      ∙ best_rooms (λ u. prices_of units u (grains_at a u)) (has_room fs) (λ u. ltb (grains_at a u) (grains_at ceilings u)) 8
      (λ u l. ap₂ ltb (sym (given_at u l)) (ceiling_at u l))

  module _ (u : ℕ) (e : next_unit (prices_of units) (grains_at ceilings) 8 a ≡ at u) where
    pub known : (u < 8) × ((filling_at fs u).energy.0 < (filling_at fs u).ceiling.0)
    known =
        let b = picked (prices_of units) (grains_at ceilings) 8 a u e in
        (b.known, omega (arith, ltb-true _ _ b.free, given_at u b.known, ceiling_at u b.known))

    pub block : IsBlock (get_or units u past_unit).offer (get_or units u past_unit).commitment (filling_at fs u).energy.0 (filling_at fs u).ceiling.0 (filling_at fs u).next.price (filling_at fs u).next.end.0
    block = (has u known.0).1 known.1

    -- a block, or less: unit u then has g grains
    pub placed : (m : ℕ) (g : HubGrains) → m ≤ (filling_at fs u).next.end.0 - (filling_at fs u).energy.0 → g.0 ≡ (filling_at fs u).energy.0 + m
        → place (prices_of units) (grains_at ceilings) 8 m a ≡ set a u g
    placed m g l s =
        let now = given_at u known.0 in
        let most = ceiling_at u known.0 in
        let more : grains_at a u + m ≡ g.0 = omega (arith, now, s) in
        let gave : with_more a u m ≡ set a u g = ap (set a u) (λ i. record { 0 = more i }) in
        run (prices_of units) (grains_at ceilings) 8 a u (length_tabulate 8 (λ k. (filling_at fs k).energy)) e m
        (omega (arith, block.within, block.past, now, most))
        (λ i q.
        block.flat (grains_at a u + i) (omega (arith, now)) (omega (arith, block.past, now))
        ∙ sym (block.flat (grains_at a u) (omega (arith, now)) (omega (arith, block.past, now))))
        ∙ gave

-- the grains placed so far and some more
pub further : (price : ℕ → ℕ → ℕ) (ceiling : ℕ → ℕ) (n m more : ℕ) (z a b : List HubGrains) → n + m ≡ more
    → a ≡ place price ceiling 8 n z → place price ceiling 8 m a ≡ b → b ≡ place price ceiling 8 more z
further price ceiling n m more z a b s e e' =
    sym e'
    ∙ (ap (λ (b : List HubGrains). place price ceiling 8 m b) e
    ∙ (sym (place_add price ceiling 8 n m z) ∙ ap (λ (k : ℕ). place price ceiling 8 k z) s))
