-- Each item is the definition's, by the same D, net(A) and split.
-- Assumes nothing.
use mathlib.Core.Path.{◌∙◌, ap}
use Prim.Native.Nat.{◌≤◌}
use mathlib.Core.List.{[], ◌∷◌}
use native.Mathlib.Omega.{arith}
use Rattle.energy.specs.declared.GrossKwh.{GrossKwh}
use Rattle.energy.specs.declared.NetKwh.{NetKwh}
use Rattle.energy.specs.Energy.{net_of}
use Rattle.energy.proofs.Laws.{net_le}
use Rattle.formulas.specs.declared.Deviations.{Deviations}
use Rattle.formulas.proofs.Amounts.{back}
use Rattle.formulas.proofs.Laws.{ceiling_most}
use Rattle.settlement.specs.Hour.{availability_item, refund_item, test_item, amounts_of}
use Rattle.deviation.specs.Deviation.{SplitReady}
use Rattle.deviation.proofs.Weights.{split_ready}
use Rattle.settlement.proofs.UnitHour.amounts.Goals.{After-net_of-declared, After-split-d}
use Rattle.settlement.proofs.UnitHour.amounts.Goals as goal

-- D and the split are in range
declared_most : (c : After-net_of-declared) → c.net_of-declared.result.0 ≤ 1000000
declared_most c =
    let s = c.args.self.now in
    omega (arith, ap (λ (n : NetKwh). n.0) c.net_of-declared.ensures, net_le s.unit.now.declared s.terms.now.own, s.ready.in_range.declared)

split_here : (c : After-split-d) → SplitReady c.split-d.result
split_here c = let s = c.args.self.now in rw c.split-d.ensures (split_ready s.terms.now.own s.unit.now s.ready.in_range)

pub net_of-requires : goal.net_of-requires
net_of-requires c =
    let s = c.args.self.now in
    let m = ceiling_most s.rates.season s.unit.now.power in
    omega (arith, m, s.ready.in_range.power, ap (λ (g : GrossKwh). g.0) c.declaration_ceiling-ceiling.ensures)

pub availability_item-requires : goal.availability_item-requires
availability_item-requires c = declared_most (goal.at.availability_item-requires c).After-net_of-declared

pub refund_item-requires : goal.refund_item-requires
refund_item-requires c = declared_most (goal.at.refund_item-requires c).After-net_of-declared

pub test_item-requires : goal.test_item-requires
test_item-requires c = split_here (goal.at.test_item-requires c).After-split-d

pub returns : goal.returns
unfolding amounts_of
returns c =
    let s = c.args.self.now in
    let u = s.unit.now in
    let n = c.net_of-declared.ensures in
    let allowed = c.net_of.ensures ∙ ap (λ (g : GrossKwh). net_of g s.terms.now.own) c.declaration_ceiling-ceiling.ensures in
    let d = c.split-d.ensures in
    let paid = back _ c.energy_item.type_inv ∙ c.energy_item.ensures in
    let available = back _ c.availability_item.type_inv ∙ (c.availability_item.ensures ∙ ap (λ (n : NetKwh). availability_item s.rates n s.commitment) n) in
    let refunded = back _ c.refund_item.type_inv ∙ (c.refund_item.ensures ∙ (λ i. refund_item s.rates (n i) u.real (d i) (allowed i))) in
    let tested =
    back _ c.test_item.type_inv ∙ (c.test_item.ensures ∙ ap (λ (d : Deviations). test_item s.rates u.reading u.repair u.since d s.energy) d) in
    let owed = back _ c.owed.type_inv ∙ c.owed.ensures in
    λ i. record { item = paid i ∷ (available i ∷ (refunded i ∷ (tested i ∷ (owed i ∷ [])))) }
