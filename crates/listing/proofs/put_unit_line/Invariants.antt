use Prim.Native.Nat.{◌+◌, ◌*◌, ◌≤◌}
use Rattle.decimal.specs.Writer.{Wrote}
use Rattle.listing.specs.Listing.{most_field, joined, item_field}
use Rattle.listing.proofs.put_unit_line.Given as goal

abbrev pub invariant-loop-amount : goal.invariant-loop-amount
invariant-loop-amount l =
    record {
      result_after : Wrote l.initial.out l.out (joined l.amount-index (item_field l.fn.amounts));
      upper_bound : l.out.place ≤ l.initial.out.place + l.amount-index * most_field;
    }
