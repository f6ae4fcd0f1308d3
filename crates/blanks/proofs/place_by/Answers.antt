-- The unit's block where it is in the plant, else the empty unit.
-- Assumes nothing.
use native.Mathlib.Omega.{arith}
use Rattle.units.proofs.Laws.{members_le}
use Rattle.blanks.proofs.place_by.Goals as goal

pub unit_by-requires : goal.unit_by-requires
unit_by-requires c = omega (arith, c.block_of.ensures, members_le c.args.units c.args.k)
