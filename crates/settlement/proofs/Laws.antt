-- The promise that the crates above rest on. The energies are the allocation's, so they add up to the plant's net hub energy, each within
-- its ceiling, and every other such split costs at least as much; each amount is its formula's and within ±10^11; outside the plant all is 0.
-- Assumes nothing.
use mathlib.Core.Path.{◌≡◌, refl, sym, ◌∙◌, ap, subst}
use mathlib.Core.Bool.{Bool, true, false, cond}
use mathlib.Core.List.{List, [], ◌∷◌}
use Prim.Native.Nat.{ℕ, ◌-◌, ◌≤◌, ◌<◌}
use native.Mathlib.Omega.{arith}
use lib.IntN.{pos, nat_abs}
use lib.ListN.{length, get_or}
use Rattle.finite.specs.Finite.{sum, tabulate}
use Rattle.finite.proofs.Tables.{length_tabulate, get_d_tabulate}
use Rattle.energy.specs.declared.NetKwh.{NetKwh}
use Rattle.energy.specs.declared.HubKwh.{HubKwh}
use Rattle.energy.specs.declared.HubGrains.{HubGrains}
use Rattle.energy.specs.Energy.{net_of}
use Rattle.units.specs.Units.{member_at, is_lowest}
use Rattle.units.proofs.Laws.{place_lt}
use Rattle.offer.specs.Offer.{last_quantity}
use Rattle.offer.proofs.Steps.{holds, last_most}
use Rattle.sheet.specs.declared.Sheet.{Sheet}
use Rattle.sheet.specs.Ranges.{unit_at as sheet_unit, offer_at, sheet_holds}
use Rattle.record.specs.declared.Record.{Record}
use Rattle.record.specs.Spans.{unit_at as record_unit}
use Rattle.record.specs.InRange.{InRange}
use Rattle.allocation.specs.Fill.{grains_at}
use Rattle.allocation.specs.Allocation.{ceilings, energies, plant_energy, Allocated}
use Rattle.allocation.proofs.Laws.{energies_length, energies_allocated, energy_none}
use Rattle.formulas.specs.Items.{owed, declaration_ceiling, drawn_pay}
use Rattle.charge.specs.Test.{written_q, counted_deviation}
use Rattle.formulas.proofs.Laws.{drawn_most}
use Rattle.charge.proofs.Weights.{counted_is, weighted_is}
use Rattle.settlement.specs.declared.Amounts.{Amounts}
use Rattle.settlement.specs.declared.HourResult.{HourResult}
use Rattle.deviation.specs.Deviation.{deviations_of}
use Rattle.settlement.specs.Charge.{ChargeNear}
use Rattle.settlement.specs.Hour.{no_amounts, past_amounts, amount_at, energy_item, availability_item, refund_item, test_item, drawn_at, amounts_of, plant_of, amounts_at, hour_result, hour_is}
use Rattle.terms.specs.Terms.{rates_of}
use Rattle.settlement.specs.Ranges.{HourRead, HourReady}
use Rattle.settlement.proofs.Ready.{own_at, hour_offer, plant_holds, hour_most, sheet_unit_in, rates_ready, drawn_ready, unit_ready}
use Rattle.settlement.proofs.Sizes.{most, none_most, unit_most, test_near}

module _ (sheet : Sheet) (r : Record) (commitment : List HubKwh) where
  -- refusals 9 and 12 and the record's reader make an hour ready
  pub ready : sheet_holds sheet ≡ true → InRange sheet.units r
      → ((k : ℕ) → member_at sheet.units k ≡ true
      → (get_or commitment k (record { 0 = 0 })).0 ≤ (last_quantity (offer_at (sheet_unit sheet.unit k) (r.hour - 1))).0)
      → HourReady sheet r commitment
  ready s i c =
      let read : HourRead sheet r = record { sheet_holds = s; in_range = i } in
      record {
        read = read;
        committed = λ k m.
            let o = offer_at (sheet_unit sheet.unit k) (r.hour - 1) in
            let t = (sheet_unit_in sheet r read k m).offers (r.hour - 1) (omega (arith, i.hour_least, i.hour_most)) in
            omega (arith, c k m, last_most o (holds o t));
      }

  energy_is : (hour_result sheet r commitment).energy ≡ energies r.net r.reverse (plant_of sheet r commitment)
  energy_is = ap (λ (x : HourResult). x.energy) (hour_is sheet r commitment)

  amounts_is : (hour_result sheet r commitment).amounts
      ≡ tabulate 8 (amounts_at sheet r commitment (energies r.net r.reverse (plant_of sheet r commitment)))
  amounts_is = ap (λ (x : HourResult). x.amounts) (hour_is sheet r commitment)

  -- there is a place for each of eight units
  pub energy_length : length (hour_result sheet r commitment).energy ≡ 8
  energy_length = ap length energy_is ∙ energies_length r.net r.reverse (plant_of sheet r commitment)

  pub amounts_length : length (hour_result sheet r commitment).amounts ≡ 8
  amounts_length = ap length amounts_is ∙ length_tabulate 8 (amounts_at sheet r commitment (energies r.net r.reverse (plant_of sheet r commitment)))

  -- the amounts of place k are the definition's, by the hour's energies
  pub amounts_at_lem : (k : ℕ) → k < 8
      → get_or (hour_result sheet r commitment).amounts k past_amounts ≡ amounts_at sheet r commitment (hour_result sheet r commitment).energy k
  amounts_at_lem k l =
      ap (λ (a : List Amounts). get_or a k past_amounts) amounts_is
      ∙ (get_d_tabulate 8 (amounts_at sheet r commitment (energies r.net r.reverse (plant_of sheet r commitment))) k past_amounts l
      ∙ ap (λ (e : List HubGrains). amounts_at sheet r commitment e k) (sym energy_is))

  -- outside the plant each amount is 0
  pub amounts_none : (k : ℕ) → k < 8 → member_at sheet.units k ≡ false → get_or (hour_result sheet r commitment).amounts k past_amounts ≡ no_amounts
  unfolding amounts_at
  amounts_none k l m = amounts_at_lem k l ∙ rw m

  member_amounts : (k : ℕ) → member_at sheet.units k ≡ true
      → get_or (hour_result sheet r commitment).amounts k past_amounts
      ≡ amounts_of (rates_of sheet r.hour) (own_at sheet k) (hour_offer sheet r k) (get_or commitment k (record { 0 = 0 })) (record_unit r k)
      (get_or (hour_result sheet r commitment).energy k (record { 0 = 0 })) (drawn_at sheet r k)
  unfolding amounts_at
  member_amounts k m = amounts_at_lem k (place_lt sheet.units k m) ∙ rw m

  -- the five items of a unit of the plant, by name
  pub amount_is : (k : ℕ) → member_at sheet.units k ≡ true
      → let rates = rates_of sheet r.hour in
      let own = own_at sheet k in
      let u = record_unit r k in
      let its = get_or commitment k (record { 0 = 0 }) in
      let energy = get_or (hour_result sheet r commitment).energy k (record { 0 = 0 }) in
      let declared = net_of u.declared own in
      let allowed = net_of (declaration_ceiling rates.season u.power) own in
      let d = deviations_of own u in
      (get_or (hour_result sheet r commitment).amounts k past_amounts).item
      ≡ energy_item (hour_offer sheet r k) its energy
      ∷ (availability_item rates declared its
      ∷ (refund_item rates declared u.real d allowed
      ∷ (test_item rates u.reading u.repair u.since d energy ∷ (owed (drawn_at sheet r k) ∷ []))))
  unfolding amounts_of
  amount_is k m = ap (λ (a : Amounts). a.item) (member_amounts k m)

  module _ (h : HourReady sheet r commitment) where
    -- the energies add up to the plant's net hub energy, each within its ceiling, and every other such split costs at least as much
    pub hour_allocated : Allocated r.net r.reverse (plant_of sheet r commitment) (hour_result sheet r commitment).energy
    hour_allocated =
        rw energy_is (energies_allocated r.net r.reverse (plant_of sheet r commitment) (plant_holds sheet r commitment h))

    pub energy_total : sum 8 (grains_at (hour_result sheet r commitment).energy) ≡ (plant_energy r.net r.reverse sheet.loss).0
    unfolding plant_of
    energy_total = hour_allocated.split.total

    pub energy_within : (k : ℕ) → k < 8
        → grains_at (hour_result sheet r commitment).energy k ≤ grains_at (ceilings r.net r.reverse (plant_of sheet r commitment)) k
    energy_within = hour_allocated.split.within

    pub energy_outside : (k : ℕ) → k < 8 → member_at sheet.units k ≡ false → grains_at (hour_result sheet r commitment).energy k ≡ 0
    unfolding plant_of
    energy_outside k l m =
        rw energy_is (energy_none r.net r.reverse (plant_of sheet r commitment) (plant_holds sheet r commitment h) k l m)

    -- no energy is over 8 × 10^10, and no amount beyond ±10^11
    pub energy_most : (k : ℕ) → k < 8 → grains_at (hour_result sheet r commitment).energy k ≤ 80000000000
    energy_most k l = rw energy_is (hour_most sheet r commitment h k l)

    drawn_at_most : (k : ℕ) → drawn_at sheet r k ≤ 80000000000
    unfolding drawn_at
    drawn_at_most k = by (is_lowest sheet.units k)
      where
        by : (t : Bool) → cond t (drawn_pay r.reverse r.net sheet.ceiling sheet.loss) 0 ≤ 80000000000
        by true = let d = drawn_ready sheet r h.read in drawn_most r.reverse r.net sheet.ceiling sheet.loss d.0 d.1
        by false = omega arith

    pub amount_most : (k : ℕ) → k < 8 → (i : ℕ) → nat_abs (amount_at (hour_result sheet r commitment).amounts k i) ≤ most
    amount_most k l i = by (member_at sheet.units k) refl
      where
        of : Amounts → Type 0
        of a = nat_abs (get_or a.item i (pos 0)) ≤ most

        by : (t : Bool) → member_at sheet.units k ≡ t → of (get_or (hour_result sheet r commitment).amounts k past_amounts)
        by true m =
            subst of (sym (member_amounts k m))
            (rw energy_is
            (unit_most (rates_of sheet r.hour) (own_at sheet k) (hour_offer sheet r k) (get_or commitment k (record { 0 = 0 })) (record_unit r k)
            (get_or (energies r.net r.reverse (plant_of sheet r commitment)) k (record { 0 = 0 })) (rates_ready sheet r h.read)
            (unit_ready sheet r commitment h k m) (drawn_at sheet r k) (drawn_at_most k) i))
        by false m = subst of (sym (amounts_none k l m)) (none_most i)

    -- where item 4 is charged, its size never exceeds the exact product, and falls short of it by under 130 Rial
    pub charge_near_exact : (k : ℕ) → member_at sheet.units k ≡ true
        → ChargeNear sheet r k (get_or (hour_result sheet r commitment).energy k (record { 0 = 0 })) (amount_at (hour_result sheet r commitment).amounts k 3)
    unfolding ChargeNear
    charge_near_exact k m t =
        let e = ap (λ s. nat_abs (get_or s 3 (pos 0))) (amount_is k m) in
        let u = record_unit r k in
        let d = deviations_of (own_at sheet k) u in
        let q : ◌≡◌ {A = NetKwh} (record { 0 = written_q d u.repair }) (counted_deviation d u.repair) = λ i. record { 0 = sym (counted_is d u.repair) i } in
        rw (e, energy_is, sym (weighted_is d u.repair))
        (test_near (rates_of sheet r.hour) (own_at sheet k) (hour_offer sheet r k) (get_or commitment k (record { 0 = 0 })) (record_unit r k)
        (get_or (energies r.net r.reverse (plant_of sheet r commitment)) k (record { 0 = 0 })) (rates_ready sheet r h.read)
        (unit_ready sheet r commitment h k m) (rw (energy_is, q) at t))
