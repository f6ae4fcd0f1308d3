-- What the lines of a good sheet are: as many as their units ask for, each by the row of its place.
-- Assumes nothing.
use mathlib.Core.Path.{◌≡◌, refl, ap, ◌∙◌, subst}
use mathlib.Core.List.{List}
use Prim.Native.Nat.{ℕ, ◌+◌, ◌*◌, ◌-◌, ◌%◌, ◌≤◌, ◌<◌}
use native.Mathlib.Nat.{not-suc-le-zero}
use native.Mathlib.Omega.{arith}
use borrow.Author.Tests.{lt-ltb, le-ltb}
use lib.Count.{ones}
use lib.ListN.{length, get_or, take}
use lib.Seq.{length-take-le, get_or-take}
use Rattle.std.specs.Prelude.{Result, Ok, Err}
use Rattle.lines.specs.declared.TextRefusal.{TextRefusal}
use Rattle.text.specs.Rows.{no_line}
use Rattle.text.specs.declared.Row.{Row}
use Rattle.text.specs.declared.Line.{Line}
use Rattle.lines.specs.Lines.{Reading, begin, further, read_by, line_of, number_of}
use Rattle.lines.proofs.Reading.{Keeps, not_ok}
use Rattle.lines.proofs.Due.{Onward, Ordered, onward}
use Rattle.sheet_lines.specs.Rows.{head_rows, unit_rows, end_row, row_at, units_read, due_row, read_lines}
use Rattle.sheet_lines.proofs.Due.{same_row}

-- the lines of a sheet, each by its row
pub record Whole (lines : List Line) : Type 0 where
  pub count : length lines ≡ 31 + 27 * units_read lines
  pub head : (k : ℕ) → k < 30 → Keeps (get_or (head_rows (number_of (line_of lines 0))) k end_row) (line_of lines k)
  pub block : (j i : ℕ) → j < units_read lines → i < 27 → Keeps (get_or unit_rows i end_row) (line_of lines (30 + 27 * j + i))

-- the row that was due before line k, by all the lines
due_at : (lines : List Line) (k : ℕ) → k < length lines → due_row (take k lines) ≡ row_at (number_of (line_of lines 0)) (units_read lines) k
due_at lines k h =
    ap (row_at (number_of (line_of (take k lines) 0)) (units_read (take k lines))) (length-take-le k lines (omega arith))
    ∙ same_row _ _ _ _ k (λ l. ap number_of (get_or-take k lines 0 no_line l)) (λ l. ap (λ (x : Line). ones (number_of x)) (get_or-take k lines 29 no_line l))

-- the head of a reading that ends well
record Headed (text : List ℕ) (s : Reading) : Type 0 where
  head : Reading
  first : read_by text due_row 30 begin ≡ Ok head
  rest : read_by text due_row (27 * units_read head.lines + 1) head ≡ Ok s

headed : (text : List ℕ) (s : Reading) → read_lines text ≡ Ok s → Headed text s
unfolding read_lines
headed text s = by (read_by text due_row 30 begin) refl
  where
    by : (r : Result Reading TextRefusal) → read_by text due_row 30 begin ≡ r
        → further r (λ h. read_by text due_row (27 * units_read h.lines + 1) h) ≡ Ok s → Headed text s
    by (Ok h) e q = record { head = h; first = e; rest = q }
    by (Err f) e q = absurd (not_ok _ _ q)

module _ (text : List ℕ) (s : Reading) (good : read_lines text ≡ Ok s) where
  h : Headed text s
  h = headed text s good

  lines : List Line
  lines = s.lines

  first : Onward text due_row 30 begin h.head
  first = onward text due_row 30 begin h.head h.first

  rest : Onward text due_row (27 * units_read h.head.lines + 1) h.head s
  rest = onward text due_row (27 * units_read h.head.lines + 1) h.head s h.rest

  -- the place after what was read
  pub place_in : s.at ≤ length text
  place_in = rest.inside (first.inside (omega arith))

  head_count : length h.head.lines ≡ 30
  head_count = first.counted

  units_same : units_read lines ≡ units_read h.head.lines
  unfolding lines
  units_same = ap (λ (l : Line). ones (number_of l)) (rest.earlier 29 (omega (arith, head_count)))

  in_order_lem : Ordered due_row lines
  unfolding lines
  in_order_lem = rest.in_order_lem (first.in_order_lem (record { keeps = λ k h. absurd (not-suc-le-zero h) }))

  keeps_at : (k : ℕ) → k < length lines → Keeps (row_at (number_of (line_of lines 0)) (units_read lines) k) (line_of lines k)
  keeps_at k h = rw (← due_at lines k h) (in_order_lem.keeps k h)

  counted : length lines ≡ 31 + 27 * units_read lines
  unfolding lines
  counted = let e = units_same in omega (arith, rest.counted, head_count)

  in_head : (m n k : ℕ) → k < 30 → row_at m n k ≡ get_or (head_rows m) k end_row
  unfolding row_at
  in_head m n k h = simp (lt-ltb _ _ h)

  in_block : (m n j i : ℕ) → j < n → i < 27 → row_at m n (30 + 27 * j + i) ≡ get_or unit_rows i end_row
  unfolding row_at
  in_block m n j i h l =
      let k = 30 + 27 * j + i in
      let e : (k - 30) % 27 ≡ i = omega arith in
      let a : 30 ≤ k = omega arith in
      let b : k < 30 + 27 * n = omega arith in
      simp (le-ltb _ _ a, lt-ltb _ _ b) (ap (λ (x : ℕ). get_or unit_rows x end_row) e)

  pub whole : Whole s.lines
  unfolding lines
  whole =
      record {
        count = counted;
        head = λ k h. subst (λ (r : Row). Keeps r (line_of s.lines k)) (in_head (number_of (line_of lines 0)) (units_read lines) k h) (keeps_at k (omega (arith, counted)));
        block = λ j i h l. subst (λ (r : Row). Keeps r (line_of s.lines (30 + 27 * j + i))) (in_block (number_of (line_of lines 0)) (units_read lines) j i h l) (keeps_at (30 + 27 * j + i) (omega (arith, counted)));
      }

  pub place_past : 1 ≤ s.at
  place_past = omega (arith, rest.further)
