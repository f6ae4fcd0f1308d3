-- The ceilings add up to R at the hub and X, which is at least H. Some weight is over 0: by `real` the weights add up to R, which is over 0
-- there, and by `nominal` each unit of the plant has at least 1. So the shares add up to X.
-- Assumes nothing.
use mathlib.Core.Path.{◌≡◌, refl, sym, ◌∙◌, ap}
use mathlib.Core.Bool.{Bool, true, false, cond}
use mathlib.Core.List.{List}
use Prim.Native.Nat.{ℕ, ◌+◌, ◌*◌, ◌-◌, ◌^◌, ◌≤◌, ◌<◌}
use native.Mathlib.Nat.{zero-mul, mul-le-mul}
use native.Mathlib.Decide.{dec_lt}
use native.Mathlib.Omega.{arith}
use borrow.Author.Tests.{eq-eqb, ne_eqb}
use lib.ListN.{get_or}
use Rattle.finite.specs.Finite.{sum, tabulate}
use Rattle.finite.proofs.Sums.{sum_le, sum_same, sum_add}
use Rattle.finite.proofs.Tables.{length_tabulate, get_d_tabulate}
use Rattle.energy.specs.declared.NetKwh.{NetKwh}
use Rattle.energy.specs.declared.HubGrains.{HubGrains}
use Rattle.energy.specs.Energy.{hub_of}
use Rattle.energy.proofs.Laws.{hub_le, hub_mono, hub_add, hub_sum}
use Rattle.units.specs.Units.{bit, member_at, members}
use Rattle.units.proofs.Laws.{count_members, count_positive, place_one, place_zero}
use Rattle.apportion.specs.Shares.{sum_of, Fits}
use Rattle.apportion.proofs.Laws.{shares_total, share_none, share_within}
use Rattle.allocation.specs.declared.Plant.{Plant}
use Rattle.allocation.specs.Fill.{grains_at}
use Rattle.allocation.specs.Blocks.{Offered, EachOffered}
use Rattle.allocation.specs.Allocation.{above, net_energy, plant_energy, unit_at, net_at, gross_at, real_sum, excess, weight_at, excess_shares, ceiling_at, ceilings, ceilings_is, PlantHolds}

by_member : (units k : ℕ) (P : Bool → Type 0) → (member_at units k ≡ true → P true) → (member_at units k ≡ false → P false) → P (member_at units k)
by_member units k P inside outside = go (member_at units k) refl
  where
    go : (t : Bool) → member_at units k ≡ t → P t
    go true e = inside e
    go false e = outside e

million_each : sum 8 (λ _. 1000000) ≡ 8000000
unfolding sum
million_each = refl

module _ (plant : Plant) where
  pub weight_at_lem : (k : ℕ) → k < 8 → get_or (tabulate 8 (weight_at plant)) k 0 ≡ weight_at plant k
  weight_at_lem k l = get_d_tabulate 8 (weight_at plant) k 0 l

  pub weights_sum : sum_of (tabulate 8 (weight_at plant)) ≡ sum 8 (weight_at plant)
  weights_sum =
      ap (λ (n : ℕ). sum n (λ i. get_or (tabulate 8 (weight_at plant)) i 0)) (length_tabulate 8 (weight_at plant))
      ∙ sum_same 8 (λ i. get_or (tabulate 8 (weight_at plant)) i 0) (weight_at plant) weight_at_lem

  -- the weights are those of `real` or those of `nominal`
  by_real : 0 < (real_sum plant).0 → (k : ℕ) → weight_at plant k ≡ (net_at plant k).0
  unfolding weight_at
  by_real l k = simp (ne_eqb (real_sum plant).0 0 (λ e. omega arith))

  by_nominal : (real_sum plant).0 ≡ 0 → (k : ℕ) → weight_at plant k ≡ (gross_at plant k).0
  unfolding weight_at
  by_nominal e k = simp (eq-eqb _ _ e)

  -- outside the plant the weight is 0
  pub weight_none : (k : ℕ) → member_at plant.units k ≡ false → weight_at plant k ≡ 0
  weight_none k t = go (dec_lt 0 (real_sum plant).0)
    where
      go : Dec (0 < (real_sum plant).0) → weight_at plant k ≡ 0
      go (yes l) = by_real l k ∙ simp t
      go (no l) = by_nominal (omega arith) k ∙ simp t

  module _ (h : PlantHolds plant) where
    pub real_most : (k : ℕ) → (net_at plant k).0 ≤ 1000000
    real_most k = by_member plant.units k (λ t. (cond t (unit_at plant k).real (record { 0 = 0 })).0 ≤ 1000000) (λ t. (h.each k t).able) (λ t. omega arith)

    pub nominal_most : (k : ℕ) → (gross_at plant k).0 ≤ 1000000
    nominal_most k = by_member plant.units k (λ t. (cond t ((unit_at plant k).nominal) (record { 0 = 0 })).0 ≤ 1000000) (λ t. (h.each k t).rated.1) (λ t. omega arith)

    pub weight_most : (k : ℕ) → weight_at plant k ≤ 1000000
    weight_most k = go (dec_lt 0 (real_sum plant).0)
      where
        go : Dec (0 < (real_sum plant).0) → weight_at plant k ≤ 1000000
        go (yes l) = omega (arith, by_real l k, real_most k)
        go (no l) = omega (arith, by_nominal (omega arith) k, nominal_most k)

    -- some weight is over 0
    some_unit : 0 < members plant.units 8
    some_unit = omega (arith, count_members plant.units (omega (arith, h.some)), count_positive plant.units (omega (arith, h.some)))

    rated : (k : ℕ) → k < 8 → bit plant.units k ≤ (gross_at plant k).0
    rated k l =
        by_member plant.units k (λ t. bit plant.units k ≤ (cond t ((unit_at plant k).nominal) (record { 0 = 0 })).0)
        (λ t. omega (arith, place_one plant.units k t, (h.each k t).rated.0))
        (λ t. omega (arith, place_zero plant.units k l t))

    some_weight : 0 < sum_of (tabulate 8 (weight_at plant))
    unfolding real_sum members
    some_weight = go (dec_lt 0 (real_sum plant).0)
      where
        go : Dec (0 < (real_sum plant).0) → 0 < sum_of (tabulate 8 (weight_at plant))
        go (yes l) = omega (arith, weights_sum, sum_same 8 (weight_at plant) (λ k. (net_at plant k).0) (λ k _. by_real l k))
        go (no l) =
            omega (
              arith,
              weights_sum,
              some_unit,
              sum_le 8 (bit plant.units) (weight_at plant) (λ k q. omega (arith, rated k q, by_nominal (omega arith) k)),
            )

    module _ (net reverse : NetKwh) where
      shares_sum : sum 8 (λ k. get_or (excess_shares net reverse plant) k 0) ≡ (excess net reverse plant).0
      unfolding excess_shares
      shares_sum =
          sym (ap (λ (n : ℕ). sum n (λ k. get_or (excess_shares net reverse plant) k 0)) (length_tabulate 8 (weight_at plant)))
          ∙ shares_total (tabulate 8 (weight_at plant)) (excess net reverse plant).0 some_weight

      pub ceiling_at_lem : (k : ℕ) → k < 8 → grains_at (ceilings net reverse plant) k ≡ (ceiling_at net reverse plant k).0
      ceiling_at_lem k l =
          ap (λ (a : List HubGrains). grains_at a k) (ceilings_is net reverse plant)
          ∙ ap (λ (g : HubGrains). g.0) (get_d_tabulate 8 (ceiling_at net reverse plant) k (record { 0 = 0 }) l)

      -- R at the hub, and X
      pub ceilings_sum : sum 8 (grains_at (ceilings net reverse plant)) ≡ (hub_of (real_sum plant) plant.loss).0 + (excess net reverse plant).0
      unfolding ceiling_at real_sum
      ceilings_sum =
          let hub : ℕ → ℕ = λ k. (hub_of (net_at plant k) plant.loss).0 in
          let share : ℕ → ℕ = λ k. get_or (excess_shares net reverse plant) k 0 in
          omega (
            arith,
            sum_same 8 (grains_at (ceilings net reverse plant)) (λ k. hub k + share k) ceiling_at_lem,
            sum_add 8 hub share,
            hub_sum 8 (λ k. (net_at plant k).0) plant.loss,
            shares_sum,
          )

      pub ceilings_reach : (plant_energy net reverse plant.loss).0 ≤ sum 8 (grains_at (ceilings net reverse plant))
      unfolding plant_energy excess
      ceilings_reach =
          let n = net_energy net reverse in
          let r = real_sum plant in
          let l : n.0 ≤ r.0 + (n.0 - r.0) = omega arith in
          omega (
            arith,
            ceilings_sum,
            hub_mono n (record { 0 = r.0 + (n.0 - r.0) }) plant.loss l,
            hub_add r.0 (n.0 - r.0) plant.loss,
          )

      -- outside the plant the ceiling is 0
      pub ceiling_none : (k : ℕ) → k < 8 → member_at plant.units k ≡ false → grains_at (ceilings net reverse plant) k ≡ 0
      unfolding ceiling_at excess_shares hub_of
      ceiling_none k l t =
          omega (
            arith,
            ceiling_at_lem k l,
            share_none (tabulate 8 (weight_at plant)) (excess net reverse plant).0 k (omega (arith, length_tabulate 8 (weight_at plant))) (weight_at_lem k l ∙ weight_none k t),
            zero_hub,
          )
        where
          zero_hub : (net_at plant k).0 * (10000 - plant.loss) ≡ 0
          zero_hub = simp t (zero-mul (10000 - plant.loss))

      -- for the code: a unit with a ceiling over 0 is in the plant
      pub offered : EachOffered plant.unit (ceilings net reverse plant)
      offered u l over = go (member_at plant.units u) refl
        where
          go : (t : Bool) → member_at plant.units u ≡ t
              → Offered (unit_at plant u)
          go true t = ((h.each u t).offered, omega (arith, (h.each u t).committed))
          go false t = absurd (omega (arith, ceiling_none u l t))

      -- for the code: the excess, its shares and the weights are machine numbers
      module _ (m : net.0 ≤ 8000000) where
        excess_most : (excess net reverse plant).0 ≤ 80000000000
        unfolding excess net_energy
        excess_most = omega (arith, hub_le (above (net_energy net reverse) (real_sum plant)) plant.loss)

        pub weights_fit : (sum_of (tabulate 8 (weight_at plant)) < 2 ^ 64) × Fits (tabulate 8 (weight_at plant)) (excess net reverse plant).0
        weights_fit = (
          omega (arith, weights_sum, sum_le 8 (weight_at plant) (λ _. 1000000) (λ k _. weight_most k), million_each),
          λ k l.
              let l' : k < 8 = omega (arith, length_tabulate 8 (weight_at plant)) in
              let w : get_or (tabulate 8 (weight_at plant)) k 0 ≤ 1000000 = omega (arith, weight_at_lem k l', weight_most k) in
              omega (arith, mul-le-mul excess_most w),
        )

        pub share_most : (k : ℕ) → k < 8 → get_or (excess_shares net reverse plant) k 0 ≤ 100000000000
        unfolding excess_shares
        share_most k l =
            omega (
              arith,
              share_within (tabulate 8 (weight_at plant)) (excess net reverse plant).0 k (omega (arith, length_tabulate 8 (weight_at plant))),
              excess_most,
            )
