-- The first case's hour. The definitions go grain by grain; the laws of the quick fill and of a cost by steps turn them into
-- forms that antt computes at these numbers. What 01 leaves free stays a variable throughout.
-- Assumes nothing.
use mathlib.Core.Path.{◌≡◌, refl, ◌∙◌, ap}
use mathlib.Core.Bool.{Bool, true, false, cond}
use mathlib.Core.List.{List, [], ◌∷◌}
use Prim.Native.Nat.{ℕ, ◌*◌, ◌-◌, ◌/◌}
use native.Mathlib.Omega.{arith}
use lib.IntN.{ℤ, pos}
use lib.ListN.{get_or}
use Rattle.finite.specs.Finite.{sum, tabulate}
use Rattle.energy.specs.declared.HubGrains.{HubGrains}
use Rattle.energy.specs.Energy.{net_of, hub_of, grains_of}
use Rattle.units.specs.Units.{is_member, member_at, is_lowest}
use Rattle.offer.specs.Modified.{price_from, price_at, cost_to}
use Rattle.offer.proofs.Quick.{end_from, end_of, cost_from, cost_quick}
use Rattle.apportion.specs.Shares.{largest, add_ones, shares}
use Rattle.record.specs.Spans.{unit_at as record_unit}
use Rattle.allocation.specs.Fill.{grains_at, better, best}
use Rattle.allocation.specs.Allocation.{net_energy, plant_energy, real_sum, excess, weight_at, excess_shares, ceiling_at, ceilings, ceilings_is, energies}
use Rattle.allocation.proofs.Quick.{round_to, rounds, energies_quick}
use Rattle.formulas.specs.Items.{paid, owed, energy_pay, declaration_ceiling, drawn_pay}
use Rattle.settlement.specs.declared.HourResult.{HourResult}
use Rattle.deviation.specs.Deviation.{deviations_of}
use Rattle.settlement.specs.Hour.{past_amounts, energy_item, availability_item, refund_item, test_item, drawn_at, plant_of, hour_result, hour_is}
use Rattle.terms.specs.Terms.{rates_of}
use Rattle.settlement.proofs.Ready.{own_at, hour_offer}
use Rattle.settlement.proofs.Laws.{amount_is}
use Rattle.marked.specs.Figures.{net, hub, grains, three, Free, day_sheet, takes, first_case}

module _ (free : Free) where
  first_ceilings : ceilings (net 320000) (net 0) (plant_of (day_sheet free) first_case takes)
      ≡ three (grains 1188000000) (grains 1485000000) (grains 1287000000) (grains 0)
  unfolding plant_of net_energy real_sum excess weight_at excess_shares ceiling_at hub_of is_member member_at sum tabulate largest add_ones shares
  first_ceilings = ceilings_is (net 320000) (net 0) (plant_of (day_sheet free) first_case takes)

  first_energies : energies (net 320000) (net 0) (plant_of (day_sheet free) first_case takes)
      ≡ three (grains 781000000) (grains 1100000000) (grains 1287000000) (grains 0)
  unfolding plant_of tabulate net_energy plant_energy hub_of grains_of price_at price_from end_from end_of better best round_to rounds
  first_energies =
      energies_quick (net 320000) (net 0) (plant_of (day_sheet free) first_case takes) 12
      (three (grains 1188000000) (grains 1485000000) (grains 1287000000) (grains 0))
      (three (grains 781000000) (grains 1100000000) (grains 1287000000) (grains 0)) first_ceilings refl

  pub hour_energies_lem : (hour_result (day_sheet free) first_case takes).energy
      ≡ three (grains 781000000) (grains 1100000000) (grains 1287000000) (grains 0)
  hour_energies_lem = ap (λ (x : HourResult). x.energy) (hour_is (day_sheet free) first_case takes) ∙ first_energies

  -- no energy is drawn
  none_drawn : (k : ℕ) → drawn_at (day_sheet free) first_case k ≡ 0
  unfolding drawn_at drawn_pay
  none_drawn k = by (is_lowest 7 k)
    where
      at_lowest : 0 * free.ceiling * 9900 ≡ 0
      at_lowest = omega arith

      by : (t : Bool) → cond t (0 * free.ceiling * 9900 / 10000000) 0 ≡ 0
      by true = ap (λ (n : ℕ). n / 10000000) at_lowest
      by false = refl

  -- the items of place k, by what its energy costs, by the energies and by what is due for drawn energy
  abbrev pub items_by : ℕ → ℕ → List HubGrains → ℕ → List ℤ
  items_by k cost energy drawn =
      let rates = rates_of (day_sheet free) 1 in
      let own = own_at (day_sheet free) k in
      let u = record_unit first_case k in
      let declared = net_of u.declared own in
      let allowed = net_of (declaration_ceiling rates.season u.power) own in
      let d = deviations_of own u in
      paid (energy_pay cost)
      ∷ (availability_item rates declared (get_or takes k (hub 0))
      ∷ (refund_item rates declared u.real d allowed
      ∷ (test_item rates u.reading u.repair u.since d (get_or energy k (grains 0)) ∷ (owed drawn ∷ []))))

  abbrev pub placed : List HubGrains
  placed = three (grains 781000000) (grains 1100000000) (grains 1287000000) (grains 0)

  -- the grains and items of place k, the cost by steps
  pub place_is : (k : ℕ) → member_at 7 k ≡ true
      → let result = hour_result (day_sheet free) first_case takes in
      let o = hour_offer (day_sheet free) first_case k in
      pos (grains_at result.energy k) ∷ (get_or result.amounts k past_amounts).item
      ≡ pos (grains_at placed k) ∷ items_by k (cost_from o 0 (o.steps - 1) (grains_of (get_or takes k (hub 0))).0 (grains_at placed k)) placed 0
  unfolding energy_item
  place_is k m =
      let o = hour_offer (day_sheet free) first_case k in
      let its = get_or takes k (hub 0) in
      ap (λ (l : List ℤ). pos (grains_at (hour_result (day_sheet free) first_case takes).energy k) ∷ l)
      (amount_is (day_sheet free) first_case takes k m)
      ∙ (ap (λ (e : List HubGrains). pos (grains_at e k) ∷ items_by k (cost_to o its (grains_at e k)) e (drawn_at (day_sheet free) first_case k))
      hour_energies_lem
      ∙ (ap (λ (c : ℕ). pos (grains_at placed k) ∷ items_by k c placed (drawn_at (day_sheet free) first_case k))
      (cost_quick o its (grains_at placed k))
      ∙ ap
      (λ (n : ℕ). pos (grains_at placed k)
      ∷ items_by k (cost_from o 0 (o.steps - 1) (grains_of its).0 (grains_at placed k)) placed n)
      (none_drawn k)))
