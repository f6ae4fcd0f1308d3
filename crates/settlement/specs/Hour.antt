-- An hour's energies and amounts (01, Allocation; Five items). Place k is that of unit k + 1; outside the plant all is 0.
use Rattle.std.specs.Prelude.{◌≡◌, refl, cond, Option, List, [], ◌∷◌, ℕ, ◌-◌, ℤ, pos, get_or, replicate}
use Rattle.finite.specs.Finite.{tabulate}
use Rattle.energy.specs.declared.NetKwh.{NetKwh}
use Rattle.energy.specs.declared.HubKwh.{HubKwh}
use Rattle.energy.specs.declared.HubGrains.{HubGrains}
use Rattle.energy.specs.Energy.{net_of, gate_of}
use Rattle.units.specs.Units.{member_at, is_lowest}
use Rattle.offer.specs.declared.Offer.{Offer}
use Rattle.offer.specs.Modified.{cost_to}
use Rattle.sheet.specs.declared.Sheet.{Sheet}
use Rattle.sheet.specs.Ranges.{unit_at as sheet_unit, offer_at}
use Rattle.record.specs.declared.UnitRecord.{UnitRecord}
use Rattle.record.specs.declared.Record.{Record}
use Rattle.record.specs.Spans.{unit_at as record_unit}
use Rattle.allocation.specs.declared.PlantUnit.{PlantUnit}
use Rattle.allocation.specs.declared.Plant.{Plant}
use Rattle.allocation.specs.Allocation.{energies}
use Rattle.formulas.specs.declared.Deviations.{Deviations}
use Rattle.formulas.specs.Items.{paid, owed, energy_pay, availability, declaration_ceiling, refund, drawn_pay}
use Rattle.charge.specs.Test.{counted_deviation, is_charged, weighted, charge_of}
use Rattle.deviation.specs.Deviation.{deviations_of}
use Rattle.terms.specs.declared.Rates.{Rates}
use Rattle.terms.specs.Terms.{rates_of}
use Rattle.settlement.specs.declared.Amounts.{Amounts}
use Rattle.settlement.specs.declared.HourResult.{HourResult}

-- 01, title: "Five items a unit, in Rial"
abbrev pub items : ℕ
items = 5

abbrev pub no_amounts : Amounts
no_amounts = record { item = replicate items (pos 0) }

-- what an index past the end reads, and an item, from 0, of the unit at place k
abbrev pub past_amounts : Amounts
past_amounts = record { item = [] }

abbrev pub amount_at : List Amounts → ℕ → ℕ → ℤ
amount_at amounts k i = get_or (get_or amounts k past_amounts).item i (pos 0)

-- 1. Energy, by the unit's grains
unfoldable pub energy_item : Offer → HubKwh → HubGrains → ℤ
energy_item offer commitment energy = paid (energy_pay (cost_to offer commitment energy.0))

-- 2. Availability, by D
unfoldable pub availability_item : Rates → NetKwh → HubKwh → ℤ
availability_item rates declared commitment =
    paid (availability declared (gate_of commitment rates.loss) rates.cpf rates.bar)

-- 3. Refund, by D, `real`, the deviation by kinds and net(A)
unfoldable pub refund_item : Rates → NetKwh → NetKwh → Deviations → NetKwh → ℤ
refund_item rates declared real d allowed = owed (refund declared real d allowed rates.cpf rates.bar)

-- 4. Test, by the unit's own meter, `repair`, `since`, the deviation by kinds and the unit's grains
unfoldable pub test_item : Rates → Option NetKwh → ℕ → ℕ → Deviations → HubGrains → ℤ
test_item rates reading repair since d energy =
    owed
    (cond (is_charged (counted_deviation d repair) reading energy rates.loss)
    (charge_of (weighted d repair) since rates.cpf rates.bar)
    0)

-- 5. "Drawn energy, on the lowest-numbered unit only": what is due of the unit at place k
unfoldable pub drawn_at : Sheet → Record → ℕ → ℕ
drawn_at sheet r k = cond (is_lowest sheet.units k) (drawn_pay r.reverse r.net sheet.ceiling sheet.loss) 0

-- a unit's items, in their order. "D is net(declared)", and own is ρ: it is taken off `declared`, A and, in the split, the spans'
-- capabilities, which are gross; `real`, `test`, `deviation` and `reading` are net
unfoldable pub amounts_of : Rates → ℕ → Offer → HubKwh → UnitRecord → HubGrains → ℕ → Amounts
amounts_of rates own offer commitment u energy drawn =
    let declared = net_of u.declared own in
    let allowed = net_of (declaration_ceiling rates.season u.power) own in
    let d = deviations_of own u in
    record {
      item =
          energy_item offer commitment energy
          ∷ availability_item rates declared commitment
          ∷ refund_item rates declared u.real d allowed
          ∷ test_item rates u.reading u.repair u.since d energy
          ∷ owed drawn
          ∷ [];
    }

-- what the allocation rests on in the record's hour (crate allocation): of the unit at place k, and of the plant
abbrev pub plant_unit : Sheet → Record → List HubKwh → ℕ → PlantUnit
plant_unit sheet r commitment k =
    record {
      real = (record_unit r k).real;
      nominal = (sheet_unit sheet.unit k).nominal;
      commitment = get_or commitment k (record { 0 = 0 });
      offer = offer_at (sheet_unit sheet.unit k) (r.hour - 1);
    }

unfoldable pub plant_of : Sheet → Record → List HubKwh → Plant
plant_of sheet r commitment =
    record {
      loss = sheet.loss;
      units = sheet.units;
      unit = tabulate 8 (plant_unit sheet r commitment);
    }

-- the amounts of the unit at place k, by all units' energies
unfoldable pub amounts_at : Sheet → Record → List HubKwh → List HubGrains → ℕ → Amounts
amounts_at sheet r commitment energy k =
    cond (member_at sheet.units k)
    (amounts_of (rates_of sheet r.hour) (sheet_unit sheet.unit k).own (offer_at (sheet_unit sheet.unit k) (r.hour - 1))
    (get_or commitment k (record { 0 = 0 })) (record_unit r k) (get_or energy k (record { 0 = 0 })) (drawn_at sheet r k))
    no_amounts

-- an hour's energies and amounts, from the sheet, the record and the hour's commitments
pub hour_result : Sheet → Record → List HubKwh → HourResult
hour_result sheet r commitment =
    let energy = energies r.net r.reverse (plant_of sheet r commitment) in
    record { energy = energy; amounts = tabulate 8 (amounts_at sheet r commitment energy) }

-- `hour_result` is opened by this alone, so that the crates above rest on the laws about it
pub hour_is : (sheet : Sheet) (r : Record) (commitment : List HubKwh)
    → hour_result sheet r commitment
    ≡ record {
      energy = energies r.net r.reverse (plant_of sheet r commitment);
      amounts = tabulate 8 (amounts_at sheet r commitment (energies r.net r.reverse (plant_of sheet r commitment)));
    }
unfolding hour_result
hour_is sheet r commitment = refl
