-- `all` is the test over the entries.
use Rattle.std.proofs.Common.{rules}
use lib.Dec.{leb}
use Rattle.finite.proofs.Chains.{every_slice}
use Rattle.energy.specs.declared.HubGrains.{HubGrains}
use Rattle.state.specs.Sizes.{entries}
use Rattle.state.specs.Book.{no_grains}
use Rattle.state.specs.Ranges.{most_energy}
use Rattle.state.proofs.energies_hold.Goals as goal

pub returns : goal.returns
returns c =
    every_slice (λ (x : HubGrains). leb x.0 most_energy) c.args.energy.now entries no_grains _ (search rules) (search rules) c.all.ensures.ran
    (λ x y q k. search rules)
