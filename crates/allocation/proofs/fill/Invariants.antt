use mathlib.Core.Path.{◌≡◌}
use Prim.Native.Nat.{◌-◌, ◌≤◌}
use lib.ListN.{length, replicate}
use Rattle.allocation.specs.Fill.{grains_at, place}
use Rattle.allocation.specs.Allocation.{prices_of}
use Rattle.allocation.specs.Blocks.{given, Fillings}
use Rattle.allocation.proofs.fill.Given as goal

abbrev pub invariant-loop-left : goal.invariant-loop-left
invariant-loop-left l =
    (l.left.0 ≤ l.initial.left.0)
    × (length l.fillings ≡ 8)
    × (given l.fillings ≡ place (prices_of l.plant.unit) (grains_at l.fn.ceilings) 8 (l.initial.left.0 - l.left.0) (replicate 8 (record { 0 = 0 })))
    × Fillings l.plant.unit l.fn.ceilings l.fillings

abbrev pub decreases-loop-left : goal.decreases-loop-left
decreases-loop-left l = l.left.0
