-- What the sheet's refusal 9, the record's reader and the commitments give of an hour: the plant keeps its ranges, and so does what each
-- unit's formulas use. What was taken out of the sheet by places is what stands there.
-- Assumes nothing.
use mathlib.Core.Path.{◌≡◌, ap}
use mathlib.Core.Bool.{true, cond}
use mathlib.Core.List.{List}
use Prim.Native.Nat.{ℕ, ◌-◌, ◌≤◌, ◌<◌}
use native.Mathlib.Omega.{arith}
use lib.ListN.{get_or}
use Rattle.finite.specs.Finite.{tabulate}
use Rattle.finite.proofs.Tables.{get_d_tabulate, tabulate_same}
use Rattle.energy.specs.declared.HubKwh.{HubKwh}
use Rattle.energy.specs.declared.HubGrains.{HubGrains}
use Rattle.units.specs.Units.{member_at}
use Rattle.units.proofs.Laws.{place_lt}
use Rattle.offer.specs.declared.Offer.{Offer}
use Rattle.offer.specs.Offer.{past_offer, offer_holds}
use Rattle.sheet.specs.declared.Sheet.{Sheet}
use Rattle.sheet.specs.Ranges.{unit_at as sheet_unit, offer_at}
use Rattle.sheet.proofs.InRange.{UnitInRange as SheetUnitInRange, InRange as SheetInRange, in_range_lem}
use Rattle.record.specs.declared.Record.{Record}
use Rattle.record.specs.Spans.{unit_at as record_unit}
use Rattle.allocation.specs.declared.PlantUnit.{PlantUnit}
use Rattle.allocation.specs.Fill.{grains_at}
use Rattle.allocation.specs.Allocation.{past_unit as past_plant_unit, PlantHolds, energies}
use Rattle.allocation.proofs.Laws.{energy_most}
use Rattle.settlement.specs.Hour.{no_amounts, amounts_of, drawn_at, plant_unit, plant_of, amounts_at}
use Rattle.terms.specs.declared.HourSheet.{HourSheet}
use Rattle.terms.specs.Terms.{rates_of, unit_terms, units_terms, past_terms, terms_at, hour_sheet_with}
use Rattle.settlement.specs.Ranges.{HourRead, HourReady, RatesReady, UnitReady, place_amounts, plant_by}

-- by places: each unit's own use and its offer of an hour
abbrev pub own_at : Sheet → ℕ → ℕ
own_at sheet k = (sheet_unit sheet.unit k).own

abbrev pub hour_offer : Sheet → Record → ℕ → Offer
hour_offer sheet r k = offer_at (sheet_unit sheet.unit k) (r.hour - 1)

-- what is used of the sheet in the record's hour
abbrev pub taken : Sheet → Record → HourSheet
taken sheet r = hour_sheet_with sheet r.hour (units_terms sheet (r.hour - 1))

module _ (sheet : Sheet) (r : Record) where
  pub own_at_lem : (k : ℕ) → k < 8 → get_or (tabulate 8 (own_at sheet)) k 0 ≡ own_at sheet k
  own_at_lem k l = get_d_tabulate 8 (own_at sheet) k 0 l

  pub offer_at_lem : (k : ℕ) → k < 8 → get_or (tabulate 8 (hour_offer sheet r)) k past_offer ≡ hour_offer sheet r k
  offer_at_lem k l = get_d_tabulate 8 (hour_offer sheet r) k past_offer l

  pub terms_at_lem : (k : ℕ) → k < 8 → terms_at (taken sheet r) k ≡ unit_terms (sheet_unit sheet.unit k) (r.hour - 1)
  terms_at_lem k l = get_d_tabulate 8 (λ k. unit_terms (sheet_unit sheet.unit k) (r.hour - 1)) k past_terms l

  plant_unit_lem : (commitment : List HubKwh) (k : ℕ) → k < 8
      → get_or (tabulate 8 (plant_unit sheet r commitment)) k past_plant_unit ≡ plant_unit sheet r commitment k
  plant_unit_lem commitment k l = get_d_tabulate 8 (plant_unit sheet r commitment) k past_plant_unit l

  -- the plant by what was taken out is the definition's
  pub plant_same : (commitment : List HubKwh) → plant_by (taken sheet r) r commitment ≡ plant_of sheet r commitment
  unfolding plant_of rates_of
  plant_same commitment =
      ap (λ (u : List PlantUnit). record { loss = sheet.loss; units = sheet.units; unit = u })
      (tabulate_same 8 _ _
      (λ k l i.
      record {
        real = (record_unit r k).real;
        nominal = (terms_at_lem k l i).nominal;
        commitment = get_or commitment k (record { 0 = 0 });
        offer = (terms_at_lem k l i).offer;
      }))

  -- the amounts by what was taken out are the definition's
  pub place_same : (commitment : List HubKwh) (energy : List HubGrains) (k : ℕ) → k < 8
      → place_amounts (taken sheet r) r commitment (get_or energy k (record { 0 = 0 })) k ≡ amounts_at sheet r commitment energy k
  unfolding amounts_at drawn_at rates_of
  place_same commitment energy k l = λ i.
      cond (member_at sheet.units k)
      (amounts_of (rates_of sheet r.hour) (terms_at_lem k l i).own (terms_at_lem k l i).offer (get_or commitment k (record { 0 = 0 })) (record_unit r k)
      (get_or energy k (record { 0 = 0 })) (drawn_at sheet r k))
      no_amounts

  module _ (h : HourRead sheet r) where
    sheet_in : SheetInRange sheet
    sheet_in = in_range_lem sheet h.sheet_holds

    pub sheet_unit_in : (k : ℕ) → member_at sheet.units k ≡ true → SheetUnitInRange (sheet_unit sheet.unit k)
    sheet_unit_in k m = sheet_in.unit k (place_lt sheet.units k m) m

    pub own_most : (k : ℕ) → member_at sheet.units k ≡ true → own_at sheet k ≤ 2000
    own_most k m = (sheet_unit_in k m).own

    hour_offered : (k : ℕ) → member_at sheet.units k ≡ true → offer_holds (hour_offer sheet r k) ≡ true
    hour_offered k m = (sheet_unit_in k m).offers (r.hour - 1) (omega (arith, h.in_range.hour_least, h.in_range.hour_most))

    pub rates_ready : RatesReady (rates_of sheet r.hour)
    unfolding rates_of
    rates_ready =
        record {
          loss = sheet_in.loss;
          cpf = sheet_in.cpf (r.hour - 1) (omega (arith, h.in_range.hour_least, h.in_range.hour_most));
          bar = sheet_in.bar;
        }

    -- for the drawn energy's price
    pub drawn_ready : (r.reverse.0 ≤ 8000000) × (sheet.ceiling ≤ 10000000) × (sheet.loss ≤ 2000)
    drawn_ready = (h.in_range.reverse, sheet_in.ceiling, sheet_in.loss)

    pub net_most : r.net.0 ≤ 8000000
    net_most = h.in_range.net

  module _ (commitment : List HubKwh) (h : HourReady sheet r commitment) where
    pub plant_holds : PlantHolds (plant_of sheet r commitment)
    unfolding plant_of
    plant_holds =
        record {
          lost = (sheet_in h.read).loss;
          some = ((sheet_in h.read).units_least, (sheet_in h.read).units_most);
          each = λ k m.
              let l = place_lt sheet.units k m in
              let u = sheet_unit_in h.read k m in
              rw (plant_unit_lem commitment k l)
              (record {
                able = (h.read.in_range.unit k m).real;
                rated = (u.nominal_least, u.nominal_most);
                committed = h.committed k m;
                offered = hour_offered h.read k m;
              });
        }

    -- no energy is over 8 × 10^10
    pub hour_most : (k : ℕ) → k < 8 → grains_at (energies r.net r.reverse (plant_of sheet r commitment)) k ≤ 80000000000
    hour_most = energy_most r.net r.reverse (plant_of sheet r commitment) plant_holds (net_most h.read)

    pub unit_ready : (k : ℕ) → member_at sheet.units k ≡ true
        → UnitReady (own_at sheet k) (hour_offer sheet r k) (get_or commitment k (record { 0 = 0 })) (record_unit r k)
        (get_or (energies r.net r.reverse (plant_of sheet r commitment)) k (record { 0 = 0 }))
    unit_ready k m =
        record {
          own_use = own_most h.read k m;
          offered = hour_offered h.read k m;
          committed = h.committed k m;
          in_range = h.read.in_range.unit k m;
          allocated = hour_most k (place_lt sheet.units k m);
        }
