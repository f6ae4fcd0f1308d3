-- `map` takes each energy's number.
-- Assumes nothing.
use Rattle.std.proofs.Common.{rules, ℕ}
use Rattle.finite.proofs.Chains.{tabulate_map}
use Rattle.energy.specs.declared.HubGrains.{HubGrains}
use Rattle.state.specs.Book.{no_grains}
use Rattle.state.specs.Numbers.{grains_of}
use Rattle.state.proofs.grains_of.Goals as goal

pub returns : goal.returns
unfolding grains_of
returns c = tabulate_map {B = ℕ} (λ (x : HubGrains). x.0) _ _ _ no_grains c.map.ensures.items (λ x y q k. search rules)
