use Rattle.text.specs.Text.{seek, digits}
use Rattle.text.specs.Rows.{part_bytes}
use lib.ListN.{length, drop}
use Prim.Native.Nat.{◌+◌, ◌≤◌, max}
use mathlib.Core.Path.{◌≡◌}
use Rattle.text.proofs.digits_at.Given as goal

abbrev pub invariant-loop-i : goal.invariant-loop-i
invariant-loop-i l =
    (l.i ≤ max l.from (length l.value))
    × (l.i + seek 58 44 (drop l.i l.value) ≡ l.from + seek 58 44 (drop l.from l.value)) × (digits l.high l.n (part_bytes l.value l.i) ≡ digits l.high 0 (part_bytes l.value l.from))
