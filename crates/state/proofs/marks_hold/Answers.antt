-- `all` is the test over the hours.
use Rattle.std.proofs.Common.{rules, ◌||◌, ℕ}
use lib.Dec.{eqb}
use Rattle.finite.proofs.Chains.{every_slice}
use Rattle.state.specs.Sizes.{hours}
use Rattle.state.specs.Book.{open_mark, settled_mark}
use Rattle.state.proofs.marks_hold.Goals as goal

pub returns : goal.returns
returns c =
    every_slice (λ (m : ℕ). eqb m open_mark || eqb m settled_mark) c.args.mark.now hours 0 _ (search rules) (search rules) c.all.ensures.ran
    (λ x y q k. search rules)
