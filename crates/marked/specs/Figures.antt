-- The marked figures of 01 (Program and marked figures) as the rows of a table, and what makes a row right.
use Rattle.std.specs.Prelude.{◌≡◌, Bool, true, false, cond, Option, Some, List, [], ◌∷◌, ℕ, ◌-◌, ℤ, pos, get_or, set, replicate}
use Rattle.energy.specs.declared.GrossKwh.{GrossKwh}
use Rattle.energy.specs.declared.NetKwh.{NetKwh}
use Rattle.energy.specs.declared.HubKwh.{HubKwh}
use Rattle.energy.specs.declared.HubGrains.{HubGrains}
use Rattle.energy.specs.Energy.{net_of}
use Rattle.offer.specs.declared.Step.{Step}
use Rattle.offer.specs.declared.Offer.{Offer}
use Rattle.sheet.specs.declared.UnitSheet.{UnitSheet}
use Rattle.sheet.specs.declared.Sheet.{Sheet}
use Rattle.record.specs.declared.UnitRecord.{UnitRecord}
use Rattle.record.specs.declared.Record.{Record}
use Rattle.record.specs.Empty.{no_span, no_unit}
use Rattle.allocation.specs.Fill.{grains_at}
use Rattle.allocation.specs.Allocation.{ceilings}
use Rattle.formulas.specs.declared.Deviations.{Deviations}
use Rattle.formulas.specs.Items.{first_kind, kinds, no_deviation, in_season, declaration_ceiling, refund, drawn_pay}
use Rattle.charge.specs.Test.{counted_deviation, is_charged, weighted, charge_of}
use Rattle.settlement.specs.declared.HourResult.{HourResult}
use Rattle.settlement.specs.Hour.{past_amounts, plant_of, hour_result}

abbrev pub gross : ℕ → GrossKwh
gross n = record { 0 = n }

abbrev pub net : ℕ → NetKwh
net n = record { 0 = n }

abbrev pub hub : ℕ → HubKwh
hub n = record { 0 = n }

abbrev pub grains : ℕ → HubGrains
grains n = record { 0 = n }

-- the values of units 1 to 3, and of the places of units 4 to 8
abbrev pub three : {A : Type 0} → A → A → A → A → List A
three a b c outside = a ∷ (b ∷ (c ∷ replicate 5 outside))

-- "L = 100, .. cpf 1,000, bar 100,000"
abbrev pub loss : ℕ
loss = 100

abbrev pub cpf : ℕ
cpf = 1000

abbrev pub bar : ℕ
bar = 100000

-- a step of an offer, and an offer of two steps
abbrev pub step_of : ℕ → ℕ → Step
step_of q p = record { quantity = hub q; price = p }

abbrev pub two_steps : ℕ → ℕ → ℕ → ℕ → Offer
two_steps q p q' p' = record { steps = 2; step = step_of q p ∷ (step_of q' p' ∷ replicate 8 (step_of 0 0)) }

-- "`ceiling`, `nominal`, `monthly` and other hours' offers any allowed": of units 1 to 3, by unit; and what stands in the places of
-- units outside the plant
pub record Free : Type 0 where
  pub ceiling : ℕ
  pub nominal : ℕ → GrossKwh
  pub monthly : ℕ → GrossKwh
  pub later_offers : ℕ → List Offer
  pub outside : List UnitSheet

-- a unit of the sheet with this offer in hour 1; ρ = 0
abbrev pub unit_sheet : Free → ℕ → Offer → UnitSheet
unit_sheet free unit offer =
    record { own = 0; nominal = free.nominal unit; monthly = free.monthly unit; offers = offer ∷ free.later_offers unit }

-- "month 1, day 1, ..; offers 50000:380000,130000:440000; 110000:370000,160000:444000; 80000:390000,140000:430000; .. `units` 7"
abbrev pub day_sheet : Free → Sheet
day_sheet free =
    record {
      month = 1;
      day = 1;
      loss = loss;
      ceiling = free.ceiling;
      bar = bar;
      cpf = replicate 24 cpf;
      units = 7;
      unit =
          unit_sheet free 1 (two_steps 50000 380000 130000 440000)
          ∷ (unit_sheet free 2 (two_steps 110000 370000 160000 444000)
          ∷ (unit_sheet free 3 (two_steps 80000 390000 140000 430000) ∷ free.outside));
    }

-- "takes 20,000 (unit 1), 50,000 (unit 2)"
abbrev pub takes : List HubKwh
takes = three (hub 20000) (hub 50000) (hub 0) (hub 0)

-- a unit of the record, the rest blank: one span 60:1:0:declared
abbrev pub unit_record : ℕ → ℕ → ℕ → UnitRecord
unit_record real declared reading =
    record {
      declared = gross declared;
      real = net real;
      test = net 0;
      deviation = net 0;
      power = gross declared;
      reading = Some (net reading);
      since = 1;
      repair = 0;
      spans = 1;
      span = record { minutes = 60; kind = 1; cause = 0; capability = gross declared } ∷ replicate 5 no_span;
    }

-- "hour 1, net 320,000, .. declared = power = 120,000, 150,000, 130,000, readings 100,000, 120,000, 100,000", with these `real`
abbrev pub hour_record : ℕ → ℕ → ℕ → Record
hour_record real1 real2 real3 =
    record {
      hour = 1;
      net = net 320000;
      reverse = net 0;
      unit = three (unit_record real1 120000 100000) (unit_record real2 150000 120000) (unit_record real3 130000 100000) no_unit;
    }

-- "real = declared = power"
abbrev pub first_case : Record
first_case = hour_record 120000 150000 130000

-- "Fields: hour, unit, grains, items 1–5"
abbrev pub fields : ℕ → HourResult → ℕ → List ℤ
fields hour result unit =
    pos hour ∷ (pos unit ∷ (pos (grains_at result.energy (unit - 1)) ∷ (get_or result.amounts (unit - 1) past_amounts).item))

-- a deviation of one kind alone
abbrev pub only_kind : (kind n : ℕ) → Deviations
only_kind kind n = record { kwh = set (replicate kinds no_deviation) (kind - first_kind) (net n) }

-- a row of the table: what is given, then the figure
pub data Figure : Type 0 where
  -- a line of the statement: hour, unit, grains, items 1–5
  line : (hour unit grains item1 item2 item3 item4 item5 : ℕ) → Figure
  -- `real` of the three units, their ceilings
  ceilings_of : (real1 real2 real3 ceiling1 ceiling2 ceiling3 : ℕ) → Figure
  -- day and month, power, A
  allowed_on : (day month power a : ℕ) → Figure
  -- reading, q, whether it is charged
  charged_by : (reading q : ℕ) (charged : Bool) → Figure
  -- d2, since, the charge
  charge_for : (d2 since charge : ℕ) → Figure
  -- D, real, d7, A, the refund
  refund_of : (declared real d7 a refund : ℕ) → Figure
  -- reverse, net, ceiling, what the drawn energy costs
  drawn_for : (reverse net ceiling amount : ℕ) → Figure

-- a row is right where the definitions give its figure, whatever is left free
unfoldable pub Right : Figure → Type 0
Right (line hour unit g i1 i2 i3 i4 i5) =
    (free : Free)
    → fields first_case.hour (hour_result (day_sheet free) first_case takes) unit
    ≡ pos hour ∷ (pos unit ∷ (pos g ∷ (pos i1 ∷ (pos i2 ∷ (pos i3 ∷ (pos i4 ∷ (pos i5 ∷ [])))))))
Right (ceilings_of r1 r2 r3 c1 c2 c3) =
    (free : Free)
    → ceilings (net 320000) (net 0) (plant_of (day_sheet free) (hour_record r1 r2 r3) takes) ≡ three (grains c1) (grains c2) (grains c3) (grains 0)
Right (allowed_on day month power a) = declaration_ceiling (in_season month day) (gross power) ≡ gross a
Right (charged_by reading q charged) =
    (energy : HubGrains) (loss : ℕ) → is_charged (net q) (Some (net reading)) energy loss ≡ charged
Right (charge_for d2 since charge) =
    (reading : Option NetKwh) (energy : HubGrains)
    → let d = only_kind 2 d2 in
    cond (is_charged (counted_deviation d 0) reading energy loss) (charge_of (weighted d 0) since cpf bar) 0 ≡ charge
Right (refund_of declared real d7 a amount) =
    refund (net declared) (net real) (only_kind 7 d7) (net_of (gross a) 0) cpf bar ≡ amount
Right (drawn_for reverse n ceiling amount) = drawn_pay (net reverse) (net n) ceiling loss ≡ amount

-- "Marked (with those three rows): .."
abbrev pub rows : List Figure
rows =
    line 1 1 781000000 23764000 9979700 0 0 0
    ∷ (line 1 2 1100000000 22200000 9949400 0 0 0
    ∷ (line 1 3 1287000000 52141000 13000000 0 0 0
    ∷ (ceilings_of 100000 98000 95000 1081228669 1059604096 1027167235
    ∷ (allowed_on 15 3 120000 126000
    ∷ (allowed_on 14 3 120000 123000
    ∷ (charged_by 60000 2000 false
    ∷ (charged_by 60000 2001 true
    ∷ (charge_for 3000 3 413437
    ∷ (refund_of 120000 110000 4000 123000 600000
    ∷ (drawn_for 1000 0 440000 435600
    ∷ []))))))))))

-- every row of a table is right
unfoldable pub AllRight : List Figure → Type 0
AllRight [] = Unit
AllRight (f ∷ table) = Right f × AllRight table
