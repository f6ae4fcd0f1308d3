-- Units 1 to 3 keep the ranges, and the plant has no others.
-- Assumes nothing.
use native.Mathlib.Omega.{arith}
use Rattle.examples.proofs.Ranges.{unit_holds, three_units}
use borrow.Author.Rules.{rules}
use Rattle.examples.proofs.plant_12.Goals as goal

pub returns : goal.returns
returns c =
    record {
      lost = search rules;
      some = search rules;
      each =
          three_units _ _ _ (unit_holds _ 120000 20000 _ c.unit_12.ensures (omega arith) (omega arith) c.two_steps-2.ensures)
          (unit_holds _ 150000 50000 _ c.unit_12-2.ensures (omega arith) (omega arith) c.two_steps-3.ensures)
          (unit_holds _ 130000 0 _ c.unit_12-unit.ensures (omega arith) (omega arith) c.two_steps.ensures);
    }
