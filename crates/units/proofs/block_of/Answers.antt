-- The remainder by 2 ^ k keeps the digits below place k, and its ones are the members there.
-- Assumes nothing.
use mathlib.Core.Path.{ap, ◌∙◌}
use Prim.Native.Nat.{ℕ, ◌%◌}
use lib.Count.{ones}
use Rattle.units.proofs.Ones.{one_shifted, ones_below}
use Rattle.units.proofs.block_of.Goals as goal

pub returns : goal.returns
returns c =
    let a = c.args in
    ap (λ (b : ℕ). ones (a.units % b)) (one_shifted a.k c.requires) ∙ ones_below a.units a.k
