-- An offer and its ranges and order (01, Energies and sheet).
use Rattle.std.specs.Prelude.{ℕ, ◌+◌, ◌-◌, Bool, cond, ◌&&◌, [], ltb, leb, get_or, replicate}
use Rattle.finite.specs.Finite.{every}
use Rattle.energy.specs.declared.HubKwh.{HubKwh}
use Rattle.offer.specs.declared.Step.{Step}
use Rattle.offer.specs.declared.Offer.{Offer}

-- what an index past the end of an array of steps reads
abbrev pub no_step : Step
no_step = record { quantity = record { 0 = 0 }; price = 0 }

-- no steps
abbrev pub no_offer : Offer
no_offer = record { steps = 0; step = replicate 10 no_step }

-- what an index past the end of an array of offers reads
abbrev pub past_offer : Offer
past_offer = record { steps = 0; step = [] }

-- step s, from 0: its cumulative hub kWh, and its Rial/MWh
abbrev pub step_at : Offer → ℕ → Step
step_at o s = get_or o.step s no_step

abbrev pub quantity_at : Offer → ℕ → HubKwh
quantity_at o s = (step_at o s).quantity

abbrev pub step_price : Offer → ℕ → ℕ
step_price o s = (step_at o s).price

-- 01, Energies and sheet: 1 to 10 pairs
unfoldable pub steps_allowed : ℕ → Bool
steps_allowed steps = leb 1 steps && leb steps 10

-- 01, Energies and sheet: cumulative hub kWh 1–10^6; Rial/MWh 0–10^7
unfoldable pub in_range : Step → Bool
in_range step = (leb 1 step.quantity.0 && leb step.quantity.0 1000000) && leb step.price 10000000

abbrev pub step_in_range : Offer → ℕ → Bool
step_in_range o s = in_range (step_at o s)

-- 01, Energies and sheet: quantities strictly rising, prices never falling
unfoldable pub in_order : Step → Step → Bool
in_order step next = ltb step.quantity.0 next.quantity.0 && leb step.price next.price

abbrev pub step_in_order : Offer → ℕ → Bool
step_in_order o s = in_order (step_at o s) (step_at o (s + 1))

-- 01, Energies and sheet: an offer is 1 to 10 pairs quantity:price, each in these ranges, in this order
unfoldable pub offer_holds : Offer → Bool
offer_holds o =
    steps_allowed o.steps
    && (every o.steps (step_in_range o) && every (o.steps - 1) (step_in_order o))

-- the quantity of the last step, 0 where the number of steps is not 1 to 10
unfoldable pub last_quantity : Offer → HubKwh
last_quantity o = cond (steps_allowed o.steps) (quantity_at o (o.steps - 1)) (record { 0 = 0 })
