-- How large a unit's items can be: each magnitude is below 10^11, and a sign does not change a size.
-- Assumes nothing.
use mathlib.Core.Path.{◌≡◌}
use mathlib.Core.Bool.{Bool, true, false, cond}
use mathlib.Core.List.{[], ◌∷◌}
use Prim.Native.Nat.{ℕ, zero, suc, ◌≤◌}
use native.Mathlib.Omega.{arith}
use lib.IntN.{ℤ, pos, nat_abs}
use lib.ListN.{get_or}
use Rattle.std.specs.Prelude.{Option}
use Rattle.energy.specs.declared.NetKwh.{NetKwh}
use Rattle.energy.specs.declared.HubKwh.{HubKwh}
use Rattle.energy.specs.declared.HubGrains.{HubGrains}
use Rattle.energy.specs.Energy.{net_of, gate_of}
use Rattle.energy.proofs.Laws.{net_le}
use Rattle.offer.specs.declared.Offer.{Offer}
use Rattle.offer.specs.Modified.{cost_to}
use Rattle.offer.proofs.Costs.{cost_le}
use Rattle.record.specs.declared.UnitRecord.{UnitRecord}
use Rattle.formulas.specs.Items.{owed, refund}
use Rattle.charge.specs.Test.{is_charged, counted_deviation, weighted, hours_counted, charge_of, NearExact}
use Rattle.formulas.proofs.Amounts.{owed_size}
use Rattle.formulas.proofs.Laws.{energy_pay_most, availability_most, refund_most}
use Rattle.charge.proofs.Laws.{weighted_most}
use Rattle.charge.proofs.Charge.{charge_most, charge_near}
use Rattle.terms.specs.declared.Rates.{Rates}
use Rattle.deviation.specs.Deviation.{deviations_of}
use Rattle.settlement.specs.Hour.{no_amounts, energy_item, availability_item, refund_item, test_item, amounts_of}
use Rattle.settlement.specs.Ranges.{RatesReady, UnitReady}
use Rattle.deviation.proofs.Weights.{split_ready}

-- 10^11
abbrev pub most : ℕ
most = 100000000000

-- a list of five
each_most : (a b c d e : ℤ) → nat_abs a ≤ most → nat_abs b ≤ most → nat_abs c ≤ most → nat_abs d ≤ most → nat_abs e ≤ most → (i : ℕ)
    → nat_abs (get_or (a ∷ (b ∷ (c ∷ (d ∷ (e ∷ []))))) i (pos 0)) ≤ most
each_most a b c d e la lb lc ld le zero = la
each_most a b c d e la lb lc ld le (suc zero) = lb
each_most a b c d e la lb lc ld le (suc (suc zero)) = lc
each_most a b c d e la lb lc ld le (suc (suc (suc zero))) = ld
each_most a b c d e la lb lc ld le (suc (suc (suc (suc zero)))) = le
each_most a b c d e la lb lc ld le (suc (suc (suc (suc (suc i))))) = omega arith

pub none_most : (i : ℕ) → nat_abs (get_or no_amounts.item i (pos 0)) ≤ most
none_most i =
    each_most (pos 0) (pos 0) (pos 0) (pos 0) (pos 0) (omega arith) (omega arith) (omega arith) (omega arith) (omega arith) i

within : {n m : ℕ} → n ≤ m → m ≤ most → n ≤ most
within h k = omega arith

module _ (rates : Rates) (own : ℕ) (offer : Offer) (commitment : HubKwh) (u : UnitRecord) (energy : HubGrains) (rated : RatesReady rates) (h : UnitReady own offer commitment u energy) where
  declared_most : (net_of u.declared own).0 ≤ 1000000
  declared_most = omega (arith, net_le u.declared own, h.in_range.declared)

  energy_item_most : nat_abs (energy_item offer commitment energy) ≤ 80000000000
  unfolding energy_item
  energy_item_most =
      omega (
        arith,
        h.allocated,
        energy_pay_most (cost_to offer commitment energy.0) energy.0 (cost_le offer commitment h.offered energy.0),
      )

  availability_item_most : nat_abs (availability_item rates (net_of u.declared own) commitment) ≤ 10000000000
  unfolding availability_item
  availability_item_most =
      availability_most (net_of u.declared own) rates.cpf rates.bar declared_most rated.cpf rated.bar (gate_of commitment rates.loss)

  refund_item_most : (real allowed : NetKwh) → nat_abs (refund_item rates (net_of u.declared own) real (deviations_of own u) allowed) ≤ 10000000000
  unfolding refund_item
  refund_item_most real allowed =
      omega (
        arith,
        owed_size (refund (net_of u.declared own) real (deviations_of own u) allowed rates.cpf rates.bar),
        refund_most (net_of u.declared own) rates.cpf rates.bar declared_most rated.cpf rated.bar real (deviations_of own u) allowed,
      )

  -- item 4: W is at most 10^7
  w_range : (weighted (deviations_of own u) u.repair ≤ 10000000) × (rates.cpf ≤ 10000) × (rates.bar ≤ 1000000)
  w_range =
      let w = weighted_most (deviations_of own u) 1000000 (split_ready own u h.in_range) u.repair in (omega arith, rated.cpf, rated.bar)

  test_item_most : (reading : Option NetKwh) → nat_abs (test_item rates reading u.repair u.since (deviations_of own u) energy) ≤ 41000000000
  unfolding test_item
  test_item_most reading = by (is_charged (counted_deviation (deviations_of own u) u.repair) reading energy rates.loss)
    where
      charge : ℕ
      charge = charge_of (weighted (deviations_of own u) u.repair) u.since rates.cpf rates.bar

      by : (t : Bool) → nat_abs (owed (cond t charge 0)) ≤ 41000000000
      by true =
          omega (arith, owed_size charge, charge_most (weighted (deviations_of own u) u.repair) rates.cpf rates.bar w_range u.since)
      by false = omega arith

  -- where charged, its size never exceeds the exact product, and falls short of it by under 130 Rial
  pub test_near : is_charged (counted_deviation (deviations_of own u) u.repair) u.reading energy rates.loss ≡ true
      → NearExact (weighted (deviations_of own u) u.repair) rates.cpf rates.bar (hours_counted u.since)
      (nat_abs (test_item rates u.reading u.repair u.since (deviations_of own u) energy))
  unfolding test_item
  test_near t =
      let w = weighted (deviations_of own u) u.repair in
      rw (t, owed_size (charge_of w u.since rates.cpf rates.bar)) (charge_near w rates.cpf rates.bar w_range u.since)

  pub unit_most : (drawn : ℕ) → drawn ≤ 80000000000 → (i : ℕ) → nat_abs (get_or (amounts_of rates own offer commitment u energy drawn).item i (pos 0)) ≤ most
  unfolding amounts_of
  unit_most drawn l =
      each_most _ _ _ _ _ (within energy_item_most (omega arith)) (within availability_item_most (omega arith))
      (within (refund_item_most _ _) (omega arith)) (within (test_item_most _) (omega arith)) (omega (arith, owed_size drawn))
