-- Each return is a case of the definition.
-- Assumes nothing.
use native.Mathlib.Omega.{arith}
use Rattle.units.proofs.Laws.{members_le}
use Rattle.sheet_text.proofs.place_by.Goals as goal

pub unit_by-requires : goal.unit_by-requires
unit_by-requires c = omega (arith, c.block_of.ensures, members_le c.args.units c.args.k, c.requires)
