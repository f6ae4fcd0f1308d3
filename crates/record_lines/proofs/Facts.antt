-- What the lines of a good record are: as many as the plant's units ask for, each by the row of its place.
-- Assumes nothing.
use mathlib.Core.Path.{◌≡◌, ap, subst}
use mathlib.Core.List.{List}
use Prim.Native.Nat.{ℕ, ◌+◌, ◌*◌, ◌-◌, ◌%◌, ◌≤◌, ◌<◌}
use native.Mathlib.Nat.{not-suc-le-zero}
use native.Mathlib.Omega.{arith}
use borrow.Author.Tests.{lt-ltb, le-ltb}
use lib.ListN.{length, get_or}
use lib.Seq.{length-take-le}
use Rattle.std.specs.Prelude.{Ok}
use Rattle.text.specs.declared.Row.{Row}
use Rattle.text.specs.declared.Line.{Line}
use Rattle.lines.specs.Lines.{Reading, begin, line_of}
use Rattle.lines.proofs.Reading.{Keeps}
use Rattle.lines.proofs.Due.{Onward, Ordered, onward}
use Rattle.record_lines.specs.Rows.{head_rows, unit_rows, end_row, head_lines, unit_lines, row_at, due_row, read_lines}
use Rattle.record_lines.specs.Rows.{block_line}

-- the lines of a record of n units, each by its row
pub record Whole (n : ℕ) (lines : List Line) : Type 0 where
  pub count : length lines ≡ head_lines + unit_lines * n + 1
  pub head : (k : ℕ) → k < head_lines → Keeps (get_or head_rows k end_row) (line_of lines k)
  pub block : (j i : ℕ) → j < n → i < unit_lines → Keeps (get_or unit_rows i end_row) (line_of lines (block_line j + i))

in_head : (n k : ℕ) → k < head_lines → row_at n k ≡ get_or head_rows k end_row
unfolding row_at
in_head n k h = simp (lt-ltb _ _ h)

in_block : (n j i : ℕ) → j < n → i < unit_lines → row_at n (block_line j + i) ≡ get_or unit_rows i end_row
unfolding row_at
in_block n j i h l =
    let k = block_line j + i in
    let e : (k - head_lines) % unit_lines ≡ i = omega arith in
    let a : head_lines ≤ k = omega arith in
    let b : k < head_lines + unit_lines * n = omega arith in
    simp (le-ltb _ _ a, lt-ltb _ _ b) (ap (λ (x : ℕ). get_or unit_rows x end_row) e)

module _ (text : List ℕ) (n : ℕ) (s : Reading) (good : read_lines text n ≡ Ok s) where
  all : Onward text (due_row n) (head_lines + unit_lines * n + 1) begin s
  unfolding read_lines
  all = onward text (due_row n) (head_lines + unit_lines * n + 1) begin s good

  -- the place where the reading stands
  pub place_in : s.at ≤ length text
  place_in = all.inside (omega arith)

  pub place_past : 1 ≤ s.at
  place_past = omega (arith, all.further)

  keeps_at : (k : ℕ) → k < length s.lines → Keeps (row_at n k) (line_of s.lines k)
  keeps_at k h =
      let ordered : Ordered (due_row n) s.lines = all.in_order_lem (record { keeps = λ k h. absurd (not-suc-le-zero h) }) in
      subst (λ (m : ℕ). Keeps (row_at n m) (line_of s.lines k)) (length-take-le k s.lines (omega arith)) (ordered.keeps k h)

  pub whole : Whole n s.lines
  whole =
      let c : length s.lines ≡ head_lines + unit_lines * n + 1 = omega (arith, all.counted) in
      record {
        count = c;
        head = λ k h. subst (λ (r : Row). Keeps r (line_of s.lines k)) (in_head n k h) (keeps_at k (omega arith));
        block = λ j i h l.
            subst (λ (r : Row). Keeps r (line_of s.lines (block_line j + i))) (in_block n j i h l) (keeps_at (block_line j + i) (omega arith));
      }
