use Rattle.text.specs.Rows.{no_line}
use Rattle.values.specs.Values.{numbers}
use lib.ListN.{length, drop}
use Prim.Native.Nat.{◌≤◌, ◌-◌}
use mathlib.Core.Path.{◌≡◌}
use Rattle.values.proofs.numbers.Given as goal

abbrev pub invariant-loop-k : goal.invariant-loop-k
invariant-loop-k l =
    (l.from ≤ length l.value)
    × (l.line.count ≡ l.k)
    × (l.p ≤ l.k)
    × (numbers l.row.low l.row.high l.parts (l.row.most - l.k) l.p (drop l.from l.value) l.line ≡ numbers l.row.low l.row.high l.parts l.row.most 0 l.value no_line)
