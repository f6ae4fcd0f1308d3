-- A whole text is its own part.
use mathlib.Core.Path.{◌≡◌}
use mathlib.Core.List.{List}
use Prim.Native.Nat.{ℕ, ◌-◌}
use native.Mathlib.Omega.{arith}
use lib.ListN.{length}
use lib.Seq.{take_all}
use Rattle.ledger.specs.Requests.{part_of}

pub whole_text : (text : List ℕ) → part_of text 0 (length text) ≡ text
unfolding part_of
whole_text text = take_all (length text - 0) text (omega arith)
