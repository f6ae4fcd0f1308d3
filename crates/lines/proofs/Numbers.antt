-- The number of a line that keeps to a row of one number lies in the row's range.
-- Assumes nothing.
use mathlib.Core.Path.{refl}
use mathlib.Core.List.{List}
use Prim.Native.Nat.{ℕ, ◌≤◌, ◌<◌}
use native.Mathlib.Omega.{arith}
use Rattle.text.specs.Rows.{number_row, blank_row}
use Rattle.text.specs.declared.Line.{Line}
use Rattle.values.proofs.Fits.{Fits, part_of}
use Rattle.lines.specs.Lines.{number_of}
use Rattle.lines.proofs.Reading.{Keeps, keeps_open}

module _ (key : List ℕ) (low high : ℕ) (l : Line) where
  pub number_in : Keeps (number_row key low high) l → (low ≤ number_of l) × (number_of l ≤ high)
  unfolding part_of
  number_in k =
      let f : Fits (number_row key low high) l = keeps_open (number_row key low high) l k (λ e. omega arith) (omega arith) in
      let w = f.within 0 (f.some refl) in
      (w.least, w.most)

  pub blank_in : Keeps (blank_row key low high) l → 0 < l.count → (low ≤ number_of l) × (number_of l ≤ high)
  unfolding part_of
  blank_in k h =
      let f : Fits (blank_row key low high) l = keeps_open (blank_row key low high) l k (λ e. omega arith) (omega arith) in
      let w = f.within 0 h in
      (w.least, w.most)
