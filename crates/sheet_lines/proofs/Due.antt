-- The row due by what is kept of the lines is the row due by the lines: of the month once it is read, of the units once they are.
-- Assumes nothing.
use mathlib.Core.Path.{◌≡◌, refl, ap, sym, ◌∙◌}
use mathlib.Core.List.{List}
use Prim.Native.Nat.{ℕ, zero, suc, ◌+◌, ◌*◌, ◌-◌, ◌/◌, ◌%◌, ◌≤◌, ◌<◌}
use native.Mathlib.Decide.{dec_le}
use native.Mathlib.Omega.{arith}
use borrow.Author.Tests.{lt-ltb, le-ltb}
use lib.Count.{ones}
use lib.ListN.{length, get_or}
use Rattle.text.specs.declared.Line.{Line}
use Rattle.lines.specs.Lines.{number_of}
use Rattle.lines.specs.Cells.{line_in, Kept}
use Rattle.sheet_lines.specs.Rows.{head_rows, unit_rows, end_row, row_at, due_row}

pub same_row : (m m' n n' k : ℕ) → (0 < k → m ≡ m') → (30 ≤ k → n ≡ n') → row_at m n k ≡ row_at m' n' k
unfolding row_at head_rows
same_row m m' n n' zero f g = refl
same_row m m' n n' (suc k) f g = by (dec_le 30 (suc k))
  where
    by : Dec (30 ≤ suc k) → row_at m n (suc k) ≡ row_at m' n' (suc k)
    by (yes h) = ap (λ (x : ℕ). row_at x n (suc k)) (f (omega arith)) ∙ ap (λ (x : ℕ). row_at m' x (suc k)) (g h)
    by (no h) = ap (λ (x : ℕ). row_at x n (suc k)) (f (omega arith)) ∙ (head m' n ∙ sym (head m' n'))
      where
        head : (m n : ℕ) → row_at m n (suc k) ≡ get_or (head_rows m) (suc k) end_row
        head m n = simp (lt-ltb (suc k) 30 (omega arith))

module _ (month n k : ℕ) where
  pub head_at : k < 30 → row_at month n k ≡ get_or (head_rows month) k end_row
  unfolding row_at
  head_at h = simp (lt-ltb _ _ h)

  -- fewer blocks than n stand before a line of one of the n
  pub block_at : 30 ≤ k → (k - 30) / 27 < n → row_at month n k ≡ get_or unit_rows ((k - 30) % 27) end_row
  unfolding row_at
  block_at a b = let c : k < 30 + 27 * n = omega arith in simp (le-ltb _ _ a, lt-ltb _ _ c)

  pub end_at : 30 ≤ k → n ≤ (k - 30) / 27 → row_at month n k ≡ end_row
  unfolding row_at
  end_at a b = let c : 30 + 27 * n ≤ k = omega arith in simp (le-ltb _ _ a, le-ltb _ _ c)

-- and what is kept says it
pub row_due : (cells : List Line) (lines : List Line) (k : ℕ) → Kept cells lines → 30 ≤ length cells → k ≡ length lines
    → row_at (number_of (line_in cells 0)) (ones (number_of (line_in cells 29))) k ≡ due_row lines
row_due cells lines k kept room e =
    ap (row_at (number_of (line_in cells 0)) (ones (number_of (line_in cells 29)))) e ∙ same_row _ _ _ _ (length lines) (λ h. sym (ap number_of (kept 0 h (omega arith)))) (λ h. sym (ap (λ (l : Line). ones (number_of l)) (kept 29 (omega arith) (omega arith))))
