-- The place of a writer that begins at the start of its buffer stays within it.
-- Assumes nothing.
use mathlib.Core.Path.{◌≡◌, refl, sym, subst}
use mathlib.Core.Bool.{Bool, true, false, cond}
use mathlib.Core.List.{List, [], ◌∷◌}
use Prim.Native.Nat.{ℕ, ◌+◌, ◌≤◌}
use native.Mathlib.Omega.{arith}
use borrow.Author.Tests.{ltb-true}
use lib.Dec.{ltb}
use lib.ListN.{length, set, length-set}
use Rattle.decimal.specs.Output.{Output, output, with_byte, written}

-- the place stays within the buffer
Within : Output → Type 0
Within o = o.place ≤ length o.buffer

byte_within : (o : Output) (b : ℕ) → Within o → Within (with_byte o b)
unfolding with_byte Within
byte_within o b h = by (ltb o.place (length o.buffer)) refl
  where
    by : (t : Bool) → ltb o.place (length o.buffer) ≡ t
        → (cond t (output (set o.buffer o.place b) (o.place + 1)) o).place ≤ length (cond t (output (set o.buffer o.place b) (o.place + 1)) o).buffer
    by true e = omega (arith, ltb-true o.place (length o.buffer) e, length-set o.buffer o.place b)
    by false e = h

written_within : (o : Output) (bs : List ℕ) → Within o → Within (written o bs)
unfolding written
written_within o [] h = h
written_within o (b ∷ bs) h = written_within (with_byte o b) bs (byte_within o b h)

pub printed_within : (out out₂ : List ℕ) (r : ℕ) (bs : List ℕ) → output out₂ r ≡ written (output out 0) bs → r ≤ length out₂
unfolding Within
printed_within out out₂ r bs e = subst Within (sym e) (written_within (output out 0) bs (omega arith))
