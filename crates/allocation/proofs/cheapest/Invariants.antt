use mathlib.Core.Path.{◌≡◌}
use Rattle.allocation.specs.Fill.{best}
use Rattle.allocation.specs.Blocks.{next_price, has_room, priced}
use Rattle.allocation.proofs.cheapest.Given as goal

abbrev pub invariant-loop-v : goal.invariant-loop-v
invariant-loop-v l = l.found ≡ priced (next_price l.fillings) (best (next_price l.fillings) (has_room l.fillings) l.v)
