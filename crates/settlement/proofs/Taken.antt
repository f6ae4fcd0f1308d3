-- What was taken out of the sheet for an hour stands by place, so that the definitions by it are those of the sheet, and it keeps the
-- sheet's ranges.
-- Assumes nothing.
use mathlib.Core.Path.{◌≡◌, sym, ◌∙◌, ap, subst}
use mathlib.Core.Bool.{true, cond}
use mathlib.Core.List.{List}
use Prim.Native.Nat.{ℕ, ◌≤◌, ◌<◌}
use lib.ListN.{get_or}
use Rattle.finite.proofs.Tables.{tabulate_same}
use Rattle.finite.proofs.Tests.{every_same}
use Rattle.energy.specs.declared.HubKwh.{HubKwh}
use Rattle.energy.specs.declared.HubGrains.{HubGrains}
use Rattle.units.specs.Units.{member_at}
use Rattle.units.proofs.Laws.{place_lt}
use Rattle.sheet.specs.declared.Sheet.{Sheet}
use Rattle.record.specs.declared.Record.{Record}
use Rattle.record.specs.Spans.{unit_at as record_unit}
use Rattle.record.specs.InRange.{UnitInRange}
use Rattle.allocation.specs.declared.Plant.{Plant}
use Rattle.allocation.specs.Allocation.{energies, PlantHolds}
use Rattle.allocation.proofs.Laws.{energy_most}
use Rattle.settlement.specs.declared.Amounts.{Amounts}
use Rattle.terms.specs.declared.UnitTerms.{UnitTerms}
use Rattle.allocation.specs.Fill.{grains_at}
use Rattle.settlement.specs.declared.HourResult.{HourResult}
use Rattle.terms.specs.declared.HourSheet.{HourSheet}
use Rattle.terms.specs.Terms.{terms_at, hour_sheet, hour_sheet_is}
use Rattle.settlement.specs.Hour.{plant_of, hour_result, hour_is}
use Rattle.deviation.specs.Proportions.{unit_proportioned}
use Rattle.settlement.specs.Refusals.{proportions_hold}
use Rattle.settlement.specs.Ranges.{HourGiven, HourDue, RatesReady, UnitReady, HourInRange, amounts_by, plant_by, hour_by, proportions_by}
use Rattle.settlement.proofs.Ready.{taken, terms_at_lem, plant_same, place_same, rates_ready, drawn_ready, net_most, plant_holds, unit_ready}

module _ (sheet : Sheet) (r : Record) where
  pub hour_by_lem : (commitment : List HubKwh) → hour_by (hour_sheet sheet r.hour) r commitment ≡ hour_result sheet r commitment
  unfolding hour_by
  hour_by_lem commitment =
      let energy : List HubGrains = energies r.net r.reverse (plant_of sheet r commitment) in
      let by : Plant → HourResult
      = λ p.
      let e = energies r.net r.reverse p in record { energy = e; amounts = amounts_by (taken sheet r) r commitment e } in
      ap (λ (d : HourSheet). hour_by d r commitment) (hour_sheet_is sheet r.hour)
      ∙ (ap by (plant_same sheet r commitment)
      ∙ (ap (λ (a : List Amounts). record { energy = energy; amounts = a }) (tabulate_same 8 _ _ (place_same sheet r commitment energy))
      ∙ sym (hour_is sheet r commitment)))

  pub proportions_by_lem : proportions_by (hour_sheet sheet r.hour) r ≡ proportions_hold sheet r
  unfolding proportions_by proportions_hold
  proportions_by_lem =
      ap (λ (d : HourSheet). proportions_by d r) (hour_sheet_is sheet r.hour)
      ∙ every_same 8 _ _ (λ k l.
      ap (λ (t : UnitTerms). cond (member_at sheet.units k) (unit_proportioned t.own (record_unit r k)) true) (terms_at_lem sheet r k l))

-- what the record says of a unit of the plant keeps its ranges
pub given_unit : (day : HourSheet) (r : Record) → HourGiven day r → (k : ℕ) → member_at day.units k ≡ true → UnitInRange (record_unit r k)
given_unit day r h k =
    subst (λ (d : HourSheet). member_at d.units k ≡ true → UnitInRange (record_unit r k)) (sym (h.is ∙ hour_sheet_is h.sheet r.hour)) (h.read.in_range.unit k)

module _ (day : HourSheet) (r : Record) (commitment : List HubKwh) (h : HourDue day r commitment) where
  day_is : day ≡ taken h.sheet r
  day_is = h.is ∙ hour_sheet_is h.sheet r.hour

  plant_is : plant_by day r commitment ≡ plant_of h.sheet r commitment
  plant_is = ap (λ (d : HourSheet). plant_by d r commitment) day_is ∙ plant_same h.sheet r commitment

  taken_unit : (k : ℕ) → member_at h.sheet.units k ≡ true → (energy : HubGrains) → energy.0 ≤ 80000000000
      → UnitReady (terms_at (taken h.sheet r) k).own (terms_at (taken h.sheet r) k).offer (get_or commitment k (record { 0 = 0 })) (record_unit r k) energy
  taken_unit k m energy e =
      let u = unit_ready h.sheet r commitment h.ready k m in
      rw (terms_at_lem h.sheet r k (place_lt h.sheet.units k m))
      (record { own_use = u.own_use; offered = u.offered; committed = u.committed; in_range = u.in_range; allocated = e })

  pub hour_in_range : HourInRange day r commitment
  hour_in_range =
      let d = drawn_ready h.sheet r h.ready.read in
      record {
        net = net_most h.sheet r h.ready.read;
        reverse = d.0;
        ceiling = subst (λ (d : HourSheet). d.ceiling ≤ 10000000) (sym day_is) d.1;
        rates = subst (λ (d : HourSheet). RatesReady d.rates) (sym day_is) (rates_ready h.sheet r h.ready.read);
        plant = subst PlantHolds (sym plant_is) (plant_holds h.sheet r commitment h.ready);
        unit =
            subst
            (λ (d : HourSheet).
            (k : ℕ) → member_at d.units k ≡ true → (energy : HubGrains) → energy.0 ≤ 80000000000
            → UnitReady (terms_at d k).own (terms_at d k).offer (get_or commitment k (record { 0 = 0 })) (record_unit r k) energy)
            (sym day_is) taken_unit;
      }

-- no energy is over 8 × 10^10
pub energy_due : (day : HourSheet) (r : Record) (commitment : List HubKwh) → HourInRange day r commitment → (k : ℕ) → k < 8
    → grains_at (energies r.net r.reverse (plant_by day r commitment)) k ≤ 80000000000
energy_due day r commitment h = energy_most r.net r.reverse (plant_by day r commitment) h.plant h.net
