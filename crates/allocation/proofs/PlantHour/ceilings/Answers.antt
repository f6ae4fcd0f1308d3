-- The code's steps are the definitions of R, X, the weights, the shares and the ceilings, one after the other.
-- Assumes nothing.
use mathlib.Core.Path.{◌≡◌, sym, ◌∙◌, ap}
use mathlib.Core.Bool.{cond}
use mathlib.Core.List.{List}
use Prim.Native.Nat.{ℕ, ◌+◌, ◌-◌}
use lib.Dec.{eqb}
use lib.ListN.{length, get_or}
use Rattle.finite.specs.Finite.{tabulate}
use Rattle.finite.proofs.Tables.{length_tabulate}
use Rattle.energy.specs.declared.NetKwh.{NetKwh}
use Rattle.energy.specs.declared.HubGrains.{HubGrains}
use Rattle.energy.specs.Energy.{hub_of}
use Rattle.apportion.specs.Shares.{shares}
use Rattle.allocation.specs.declared.Plant.{Plant}
use Rattle.allocation.specs.Allocation.{above, net_at, gross_at, net_energy, real_sum, excess, weight_at, excess_shares, ceiling_at, ceilings_is}
use Rattle.allocation.proofs.Weights.{real_most, weights_fit, share_most}
use Rattle.allocation.proofs.PlantHour.ceilings.Goals.{After-hub_of-excess, After-weights_of-weights}
use Rattle.allocation.proofs.PlantHour.ceilings.Goals as goal

-- the code's steps are the definitions
excess-here : (c : After-hub_of-excess) →
    let a = c.args.self.now in
    c.hub_of-excess.result ≡ excess a.net a.reverse a.plant.now
unfolding excess net_energy
excess-here c =
    let a = c.args.self.now in
    let reals = c.real_sum-reals in
    let e =
    c.above-2.ensures
    ∙ (ap (λ (n : ℕ). n - reals.result.0) c.above.ensures
    ∙ ap (λ (r : NetKwh). a.net.0 - a.reverse.0 - r.0) reals.ensures) in
    let n : c.above-2.result ≡ above (above a.net a.reverse) (real_sum a.plant.now) = λ i. record { 0 = e i } in
    c.hub_of-excess.ensures ∙ ap (λ (n : NetKwh). hub_of n a.plant.now.loss) n

weights-here : (c : After-weights_of-weights) → c.weights_of-weights.result ≡ tabulate 8 (weight_at c.args.self.now.plant.now)
unfolding weight_at
weights-here c =
    let plant = c.args.self.now.plant.now in
    c.weights_of-weights.ensures
    ∙ ap (λ (r : NetKwh). tabulate 8 (λ (k : ℕ). cond (eqb r.0 0) (gross_at plant k).0 (net_at plant k).0)) c.real_sum-reals.ensures

module _ (net reverse : NetKwh) (plant : Plant) (x : HubGrains) (w : List ℕ) where
  shares_here : x ≡ excess net reverse plant → w ≡ tabulate 8 (weight_at plant) → shares w x.0 ≡ excess_shares net reverse plant
  unfolding excess_shares
  shares_here e f = ap (λ (w : List ℕ). shares w x.0) f ∙ ap (λ (g : HubGrains). shares (tabulate 8 (weight_at plant)) g.0) e

pub apportion-requires : goal.apportion-requires
apportion-requires c =
    let f = weights_fit c.args.self.now.plant.now c.args.self.now.in_range.1 c.args.self.now.net c.args.self.now.reverse c.args.self.now.in_range.0 in
    let w = weights-here (goal.at.apportion-requires c).After-weights_of-weights in
    (sym (ap length w ∙ length_tabulate 8 (weight_at c.args.self.now.plant.now)), rw w f.0, rw w (rw (ap (λ (g : HubGrains). g.0) (excess-here (goal.at.apportion-requires c).After-hub_of-excess)) f.1))

pub with_shares-requires : goal.with_shares-requires
with_shares-requires c = (
  real_most c.args.self.now.plant.now c.args.self.now.in_range.1,
  rw (c.apportion.ensures ∙ shares_here _ _ _ _ _ (excess-here (goal.at.with_shares-requires c).After-hub_of-excess) (weights-here (goal.at.with_shares-requires c).After-weights_of-weights)) (share_most c.args.self.now.plant.now c.args.self.now.in_range.1 c.args.self.now.net c.args.self.now.reverse c.args.self.now.in_range.0),
)

pub returns : goal.returns
unfolding ceiling_at
returns c =
    let plant = c.args.self.now.plant.now in
    let ceiling : List ℕ → ℕ → HubGrains = λ shares k. record { 0 = (hub_of (net_at plant k) plant.loss).0 + get_or shares k 0 } in
    c.with_shares.ensures
    ∙ (ap (λ (l : List ℕ). tabulate 8 (ceiling l)) (c.apportion.ensures ∙ shares_here _ _ _ _ _ (excess-here (goal.at.returns c).After-hub_of-excess) (weights-here (goal.at.returns c).After-weights_of-weights)) ∙ sym (ceilings_is _ _ plant))
