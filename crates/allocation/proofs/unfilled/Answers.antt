-- Each unit has its ceiling, no energy and its first block, since that is what is made at its index.
-- Assumes nothing.
use Rattle.std.proofs.Common.{rules, ◌≡◌, ap, ℕ, get_or}
use Rattle.energy.specs.declared.HubGrains.{HubGrains}
use Rattle.allocation.specs.declared.Filling.{Filling}
use Rattle.allocation.specs.Allocation.{past_unit}
use Rattle.allocation.specs.Blocks.{no_filling, HasBlock}
use Rattle.allocation.proofs.Turns.{each_from_fn}
use Rattle.allocation.proofs.unfilled.Goals as goal

pub returns : goal.returns
returns c =
    let a = c.args in
    let unit : ℕ → Filling → Type 0 = λ u f.
    (f.ceiling ≡ get_or a.ceilings u (record { 0 = 0 })) × (f.energy ≡ record { 0 = 0 }) × HasBlock (get_or a.plant.now.unit u past_unit) f in
    let each = each_from_fn unit _ _ c.from_fn.ensures.items (λ i y q l k. search rules) in (
      c.from_fn.ensures.items.long,
      λ u l. let e = each u no_filling l in (e.0, e.2),
      λ u l. ap (λ (g : HubGrains). g.0) (each u no_filling l).1,
    )
