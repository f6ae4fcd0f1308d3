-- Every row of the table of marked figures is right: the lines of the statement by the law of proofs/Example, which goes by steps and
-- not by grains, the others by computing.
-- Assumes nothing.
use mathlib.Core.Path.{refl, ap}
use mathlib.Core.List.{List, ◌∷◌}
use lib.IntN.{ℤ, pos}
use Rattle.finite.specs.Finite.{sum, tabulate}
use Rattle.energy.specs.Energy.{net_of, hub_of, gate_of, grains_of, pay_of}
use Rattle.units.specs.Units.{is_member, member_at}
use Rattle.offer.proofs.Quick.{cost_from}
use Rattle.apportion.specs.Shares.{largest, add_ones, shares}
use Rattle.record.specs.Spans.{counted_kind}
use Rattle.allocation.specs.Allocation.{net_energy, real_sum, excess, weight_at, excess_shares, ceiling_at, ceilings_is}
use Rattle.formulas.specs.Items.{energy_pay, availability, in_season, declaration_ceiling, refund_kwh, refund, drawn_pay}
use Rattle.charge.specs.Test.{kind_weights, kind_weight, counted_at, counted_deviation, is_charged, weighted, base_charge, hours_counted, growth, charge_of}
use Rattle.deviation.specs.Deviation.{proportion, proportions, deviations_of}
use Rattle.settlement.specs.Hour.{plant_of, availability_item, refund_item, test_item}
use Rattle.terms.specs.Terms.{rates_of}
use Rattle.marked.specs.Figures.{net, day_sheet, takes, hour_record, Right, rows, AllRight}
use Rattle.marked.proofs.Example.{place_is}

-- in the order of the rows
pub marked_rows : AllRight rows
unfolding Right AllRight plant_of net_energy real_sum excess weight_at excess_shares ceiling_at hub_of is_member member_at cost_from grains_of net_of gate_of pay_of sum tabulate largest add_ones shares counted_kind energy_pay availability in_season declaration_ceiling refund_kwh refund kind_weights kind_weight counted_at counted_deviation is_charged weighted base_charge hours_counted growth charge_of drawn_pay proportion proportions deviations_of rates_of availability_item refund_item test_item
marked_rows = (
  λ free. ap (λ (l : List ℤ). pos 1 ∷ (pos 1 ∷ l)) (place_is free 0 refl),
  (
    λ free. ap (λ (l : List ℤ). pos 1 ∷ (pos 2 ∷ l)) (place_is free 1 refl),
    (
      λ free. ap (λ (l : List ℤ). pos 1 ∷ (pos 3 ∷ l)) (place_is free 2 refl),
      (
        λ free. ceilings_is (net 320000) (net 0) (plant_of (day_sheet free) (hour_record 100000 98000 95000) takes),
        (
          refl,
          (
            refl,
            (
              λ energy loss. refl,
              (
                λ energy loss. refl,
                (
                  λ reading energy. refl,
                  (
                    refl,
                    (refl, tt),
                  ),
                ),
              ),
            ),
          ),
        ),
      ),
    ),
  ),
)
