-- Each unit's weight: of a unit outside the plant `real` and `nominal` count 0 alike.
-- Assumes nothing.
use Rattle.std.proofs.Common.{rules, ◌≡◌, refl, ◌∙◌, ℕ, cond, Bool, true, false}
use Rattle.std.specs.Prelude.{eqb}
use Rattle.finite.proofs.Chains.{tabulate_from_fn}
use Rattle.energy.specs.declared.GrossKwh.{GrossKwh}
use Rattle.energy.specs.declared.NetKwh.{NetKwh}
use Rattle.units.specs.Units.{member_at}
use Rattle.allocation.specs.Allocation.{unit_at, net_at, gross_at}
use Rattle.allocation.proofs.weights_of.Goals as goal

outside : (t s : Bool) (g : GrossKwh) (n : NetKwh) → cond t (cond s g.0 n.0) 0 ≡ cond s (cond t g (record { 0 = 0 })).0 (cond t n (record { 0 = 0 })).0
outside true true g n = refl
outside true false g n = refl
outside false true g n = refl
outside false false g n = refl

pub returns : goal.returns
returns c =
    let plant = c.args.plant.now in
    let none = eqb c.args.reals.0 0 in
    tabulate_from_fn (λ (k : ℕ). cond none (gross_at plant k).0 (net_at plant k).0) _ _ c.from_fn.ensures.items
    (λ i y q l k.
    let w : y ≡ cond (member_at plant.units i) (cond none (unit_at plant i).nominal.0 (unit_at plant i).real.0) 0 = search rules in
    (search rules, w ∙ outside (member_at plant.units i) none (unit_at plant i).nominal (unit_at plant i).real))
