-- The fill by rounds, which computes at numerals: each round gives the unit that gets the next grain its whole block, or what is left.
-- Assumes nothing.
use mathlib.Core.Path.{◌≡◌, refl, sym, ◌∙◌, ap}
use mathlib.Core.List.{List}
use Prim.Native.Nat.{ℕ, zero, suc, ◌+◌, ◌-◌, ◌≤◌, min}
use native.Mathlib.Omega.{arith}
use borrow.Author.Tests.{ltb-true}
use lib.ListN.{length, length-set, get_or, replicate}
use Rattle.energy.specs.declared.NetKwh.{NetKwh}
use Rattle.energy.specs.declared.HubGrains.{HubGrains}
use Rattle.offer.proofs.Quick.{end_of, end_block}
use Rattle.std.specs.declared.option.Option.{Option}
use Rattle.std.specs.declared.option.Option.TheVariants.{None as none, Some as at}
use Rattle.allocation.specs.declared.PlantUnit.{PlantUnit}
use Rattle.allocation.specs.declared.Plant.{Plant}
use Rattle.allocation.specs.Fill.{grains_at, with_more, next_unit, place, fill}
use Rattle.allocation.specs.Allocation.{past_unit, plant_energy, ceilings, prices_of, price_of, energies, energies_is}
use Rattle.allocation.proofs.Runs.{place_none, picked, run}
use Rattle.allocation.proofs.Rounds.{further}

pub record State : Type 0 where
  pub given : List HubGrains
  pub left : ℕ

module _ (units : List PlantUnit) (limits : List HubGrains) where
  -- what is left of unit u's block, or of the grains
  abbrev pub stretch : State → ℕ → ℕ
  stretch s u =
      let i = grains_at s.given u in
      min s.left (end_of (get_or units u past_unit).offer (get_or units u past_unit).commitment i (grains_at limits u) - i)

  unfoldable pub round_to : State → Option ℕ → State
  round_to s none = record { given = s.given; left = 0 }
  round_to s (at u) = let m = stretch s u in record { given = with_more s.given u m; left = s.left - m }

  -- k rounds
  unfoldable pub rounds : ℕ → State → State
  rounds zero s = s
  rounds (suc k) s = rounds k (round_to s (next_unit (prices_of units) (grains_at limits) 8 s.given))

  record Placed (h : ℕ) (z : List HubGrains) (s : State) : Type 0 where
    long : length s.given ≡ 8
    less : s.left ≤ h
    same : s.given ≡ place (prices_of units) (grains_at limits) 8 (h - s.left) z

  module _ (h : ℕ) (z : List HubGrains) where
    round_places : (s : State) (q : Option ℕ) → Placed h z s → next_unit (prices_of units) (grains_at limits) 8 s.given ≡ q → Placed h z (round_to s q)
    unfolding round_to
    round_places s none p e =
        record {
          long = p.long;
          less = omega arith;
          same =
              further (prices_of units) (grains_at limits) (h - s.left) s.left (h - 0) z s.given s.given
              (omega (arith, p.less)) p.same (place_none (prices_of units) (grains_at limits) 8 s.given e s.left);
        }
    round_places s (at u) p e =
        let i = grains_at s.given u in
        let m = stretch s u in
        let known = picked (prices_of units) (grains_at limits) 8 s.given u e in
        let b =
        end_block (get_or units u past_unit).offer (get_or units u past_unit).commitment i (grains_at limits u)
        (ltb-true i (grains_at limits u) known.free) in
        record {
          long = length-set s.given u (record { 0 = i + m }) ∙ p.long;
          less = omega (arith, p.less);
          same =
              further (prices_of units) (grains_at limits) (h - s.left) m (h - (s.left - m)) z s.given (with_more s.given u m)
              (omega (arith, p.less)) p.same
              (run (prices_of units) (grains_at limits) 8 s.given u p.long e m (omega (arith, b.past, b.within))
              (λ j l. b.flat (i + j) (omega arith) (omega (arith, b.past))));
        }

    rounds_place : (k : ℕ) (s : State) → Placed h z s → Placed h z (rounds k s)
    unfolding rounds
    rounds_place zero s p = p
    rounds_place (suc k) s p =
        let q = next_unit (prices_of units) (grains_at limits) 8 s.given in
        rounds_place k (round_to s q) (round_places s q p refl)

  abbrev pub start : ℕ → State
  start h = record { given = replicate 8 (record { 0 = 0 }); left = h }

  -- rounds that leave nothing give the fill
  pub by_rounds : (k h : ℕ) (a : List HubGrains) → rounds k (start h) ≡ record { given = a; left = 0 }
      → fill (prices_of units) (grains_at limits) 8 h ≡ a
  unfolding fill place
  by_rounds k h a e =
      let z : List HubGrains = replicate 8 (record { 0 = 0 }) in
      let n : 0 ≡ h - h = omega arith in
      let p =
      rounds_place h z k (start h)
      (record { long = refl; less = omega arith; same = ap (λ (n : ℕ). place (prices_of units) (grains_at limits) 8 n z) n }) in
      let l : h - (rounds k (start h)).left ≡ h = omega (arith, ap (λ (s : State). s.left) e) in
      sym
      (sym (ap (λ (s : State). s.given) e)
      ∙ (p.same ∙ ap (λ (m : ℕ). place (prices_of units) (grains_at limits) 8 m z) l))

-- the energies by k rounds, with the ceilings c
pub energies_quick : (net reverse : NetKwh) (plant : Plant) (k : ℕ) (c a : List HubGrains) → ceilings net reverse plant ≡ c
    → rounds plant.unit c k (start plant.unit c (plant_energy net reverse plant.loss).0)
    ≡ record { given = a; left = 0 }
    → energies net reverse plant ≡ a
unfolding price_of
energies_quick net reverse plant k c a e r =
    let h = (plant_energy net reverse plant.loss).0 in
    energies_is net reverse plant
    ∙ (ap (λ (c : List HubGrains). fill (price_of plant) (grains_at c) 8 h) e
    ∙ by_rounds plant.unit c k h a r)
