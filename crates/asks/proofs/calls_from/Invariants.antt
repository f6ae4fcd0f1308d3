use Rattle.asks.specs.Extent.{counted, extent_by}
use lib.ListN.{length}
use mathlib.Core.Path.{◌≡◌}
use Prim.Native.Nat.{◌-◌, ◌≤◌}
use Rattle.asks.proofs.calls_from.Given as goal

abbrev pub invariant-loop-at : goal.invariant-loop-at
invariant-loop-at l =
    record {
      few : l.calls ≤ l.at;
      calls_in_bounds : l.calls ≤ length l.text;
      all_counted : counted l.calls (extent_by (length l.text - l.calls) l.text l.at) ≡ extent_by (length l.text) l.text l.from;
    }

abbrev pub decreases-loop-at : goal.decreases-loop-at
decreases-loop-at l = length l.text - l.at
