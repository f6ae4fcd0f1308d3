use Rattle.text.specs.Text.{key_is}
use lib.ListN.{drop}
use mathlib.Core.Path.{◌≡◌}
use Rattle.text.proofs.key_is.Given as goal

abbrev pub invariant-loop-i : goal.invariant-loop-i
invariant-loop-i l = key_is (drop l.i l.line) (drop l.i l.key) ≡ key_is l.line l.key
