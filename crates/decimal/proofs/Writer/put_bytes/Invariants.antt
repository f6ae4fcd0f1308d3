use Prim.Native.Nat.{◌+◌, ◌≤◌}
use lib.ListN.{take}
use Rattle.decimal.specs.Writer.{Wrote}
use Rattle.decimal.proofs.Writer.put_bytes.Given as goal

abbrev pub invariant-loop-byte : goal.invariant-loop-byte
invariant-loop-byte l =
    record {
      result_after : Wrote l.fn.self l.self (take l.byte-index l.bytes);
      upper_bound : l.self.place ≤ l.fn.self.place + l.byte-index;
    }
