-- The total of the readings is the definition's; eight readings of at most 10^6 fit.
-- Assumes nothing.
use mathlib.Core.Path.{◌≡◌, ◌∙◌, ap}
use mathlib.Core.List.{List}
use Prim.Native.Nat.{ℕ}
use native.Mathlib.Omega.{arith}
use Rattle.std.specs.Prelude.{sum_by}
use Rattle.finite.specs.Finite.{sum}
use Rattle.energy.specs.declared.NetKwh.{NetKwh}
use Rattle.energy.proofs.Totals.{total_tabulate}
use Rattle.readings.specs.Readings.{place_reading, readings_total}
use Rattle.readings.proofs.Readings.{total_most}
use Rattle.readings.proofs.readings_total.Goals.{After-readings_of}
use Rattle.readings.proofs.readings_total.Goals as goal

abbrev number : NetKwh → ℕ
number e = e.0

readings_sum : (c : After-readings_of) → sum_by number c.readings_of.result ≡ sum 8 (place_reading c.args.hour.now c.args.units)
readings_sum c =
    ap (λ (l : List NetKwh). sum_by number l) c.readings_of.ensures
    ∙ total_tabulate number 8 (λ k. record { 0 = place_reading c.args.hour.now c.args.units k })

pub total-requires : goal.total-requires
total-requires c =
    omega (arith, readings_sum (goal.at.total-requires c).After-readings_of, total_most c.args.hour.now c.args.units c.requires)

pub returns : goal.returns
unfolding readings_total
returns c =
    let e = c.total.ensures ∙ readings_sum (goal.at.returns c).After-readings_of in
    λ i. record { 0 = e i }
