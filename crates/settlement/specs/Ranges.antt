-- What the code rests on: the ranges that the sheet, the record and the commitments keep.
use Rattle.std.specs.Prelude.{◌≡◌, Bool, true, cond, List, ℕ, ◌≤◌, get_or}
use Rattle.finite.specs.Finite.{tabulate, every}
use Rattle.energy.specs.declared.HubKwh.{HubKwh}
use Rattle.energy.specs.declared.HubGrains.{HubGrains}
use Rattle.units.specs.Units.{member_at, is_lowest}
use Rattle.offer.specs.declared.Offer.{Offer}
use Rattle.offer.specs.Offer.{offer_holds}
use Rattle.sheet.specs.declared.Sheet.{Sheet}
use Rattle.sheet.specs.Ranges.{sheet_holds}
use Rattle.record.specs.declared.UnitRecord.{UnitRecord}
use Rattle.record.specs.declared.Record.{Record}
use Rattle.record.specs.Spans.{unit_at as record_unit}
use Rattle.record.specs.InRange.{UnitInRange, InRange}
use Rattle.allocation.specs.declared.PlantUnit.{PlantUnit}
use Rattle.allocation.specs.declared.Plant.{Plant}
use Rattle.allocation.specs.Allocation.{energies, PlantHolds}
use Rattle.formulas.specs.Items.{drawn_pay}
use Rattle.terms.specs.declared.Rates.{Rates}
use Rattle.settlement.specs.declared.Amounts.{Amounts}
use Rattle.terms.specs.declared.HourSheet.{HourSheet}
use Rattle.settlement.specs.declared.HourResult.{HourResult}
use Rattle.deviation.specs.Proportions.{unit_proportioned}
use Rattle.settlement.specs.Hour.{no_amounts, amounts_of}
use Rattle.terms.specs.Terms.{terms_at, hour_sheet}

-- the sheet passes refusal 9, and the record was read for its units
pub record HourRead (sheet : Sheet) (r : Record) : Type 0 where
  pub sheet_holds : sheet_holds sheet ≡ true
  pub in_range : InRange sheet.units r

-- and no commitment is over 10^6, as 12 keeps it
pub record HourReady (sheet : Sheet) (r : Record) (commitment : List HubKwh) : Type 0 where
  pub read : HourRead sheet r
  pub committed : (k : ℕ) → member_at sheet.units k ≡ true → (get_or commitment k (record { 0 = 0 })).0 ≤ 1000000

-- what is used of the sheet in the record's hour is that of a sheet under which the record was read, and the commitments are in their range
pub record HourGiven (day : HourSheet) (r : Record) : Type 0 where
  pub sheet : Sheet
  pub is : day ≡ hour_sheet sheet r.hour
  pub read : HourRead sheet r

pub record HourDue (day : HourSheet) (r : Record) (commitment : List HubKwh) : Type 0 where
  pub sheet : Sheet
  pub is : day ≡ hour_sheet sheet r.hour
  pub ready : HourReady sheet r commitment

-- the same of what a unit's formulas use
pub record RatesReady (rates : Rates) : Type 0 where
  pub loss : rates.loss ≤ 2000
  pub cpf : rates.cpf ≤ 10000
  pub bar : rates.bar ≤ 1000000

pub record UnitReady (own : ℕ) (offer : Offer) (commitment : HubKwh) (u : UnitRecord) (energy : HubGrains) : Type 0 where
  pub own_use : own ≤ 2000
  pub offered : offer_holds offer ≡ true
  pub committed : commitment.0 ≤ 1000000
  pub in_range : UnitInRange u
  pub allocated : energy.0 ≤ 80000000000

-- for the code: the definitions of an hour by what is used of the sheet. `hour_by_lem` and `proportions_by_lem` (proofs/Taken.antt) say that they are
-- those of the sheet
abbrev pub plant_unit_by : HourSheet → Record → List HubKwh → ℕ → PlantUnit
plant_unit_by day r commitment k =
    record {
      real = (record_unit r k).real;
      nominal = (terms_at day k).nominal;
      commitment = get_or commitment k (record { 0 = 0 });
      offer = (terms_at day k).offer;
    }

abbrev pub plant_by : HourSheet → Record → List HubKwh → Plant
plant_by day r commitment = record { loss = day.rates.loss; units = day.units; unit = tabulate 8 (plant_unit_by day r commitment) }

abbrev pub drawn_by : HourSheet → Record → ℕ → ℕ
drawn_by day r k = cond (is_lowest day.units k) (drawn_pay r.reverse r.net day.ceiling day.rates.loss) 0

-- of the unit at place k, by its energy
abbrev pub place_amounts : HourSheet → Record → List HubKwh → HubGrains → ℕ → Amounts
place_amounts day r commitment energy k =
    cond (member_at day.units k)
    (amounts_of day.rates (terms_at day k).own (terms_at day k).offer (get_or commitment k (record { 0 = 0 })) (record_unit r k) energy
    (drawn_by day r k))
    no_amounts

abbrev pub amounts_by : HourSheet → Record → List HubKwh → List HubGrains → List Amounts
amounts_by day r commitment energy = tabulate 8 (λ k. place_amounts day r commitment (get_or energy k (record { 0 = 0 })) k)

-- for the code: the ranges of an hour that is due, by what is used of the sheet (`hour_in_range`, proofs/Taken.antt)
pub record HourInRange (day : HourSheet) (r : Record) (commitment : List HubKwh) : Type 0 where
  pub net : r.net.0 ≤ 8000000
  pub reverse : r.reverse.0 ≤ 8000000
  pub ceiling : day.ceiling ≤ 10000000
  pub rates : RatesReady day.rates
  pub plant : PlantHolds (plant_by day r commitment)
  pub unit : (k : ℕ) → member_at day.units k ≡ true → (energy : HubGrains) → energy.0 ≤ 80000000000
      → UnitReady (terms_at day k).own (terms_at day k).offer (get_or commitment k (record { 0 = 0 })) (record_unit r k) energy

unfoldable pub hour_by : HourSheet → Record → List HubKwh → HourResult
hour_by day r commitment =
    let energy = energies r.net r.reverse (plant_by day r commitment) in
    record { energy = energy; amounts = amounts_by day r commitment energy }

unfoldable pub proportions_by : HourSheet → Record → Bool
proportions_by day r = every 8 (λ k. cond (member_at day.units k) (unit_proportioned (terms_at day k).own (record_unit r k)) true)
