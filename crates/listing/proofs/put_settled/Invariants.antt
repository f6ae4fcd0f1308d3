use Prim.Native.Nat.{◌+◌, ◌*◌, ◌≤◌}
use lib.ListN.{length}
use Rattle.decimal.specs.Writer.{Wrote}
use Rattle.listing.specs.Listing.{most_line, joined, entry_line}
use Rattle.listing.proofs.put_settled.Given as goal

abbrev pub invariant-loop-e : goal.invariant-loop-e
invariant-loop-e l =
    record {
      result_after : Wrote l.fn.out l.out (joined l.e (entry_line l.front l.units l.book));
      upper_bound : l.out.place ≤ l.fn.out.place + l.e * (length l.front + most_line);
    }
