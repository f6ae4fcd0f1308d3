use Rattle.values.specs.Values.{rising}
use Prim.Native.Nat.{◌-◌, ◌*◌, ◌/◌}
use mathlib.Core.Path.{◌≡◌}
use Rattle.values.proofs.rising.Given as goal

abbrev pub invariant-loop-s : goal.invariant-loop-s
invariant-loop-s l = rising l.line.number (2 * l.s) (l.line.count / 2 - l.s) l.q l.p ≡ rising l.line.number 0 (l.line.count / 2) 0 0
