-- A sheet that was read passes refusal 9: each of its values stands in a line that keeps to its row.
-- Assumes nothing.
use mathlib.Core.Path.{◌≡◌, refl, subst}
use mathlib.Core.Bool.{true}
use mathlib.Core.List.{List}
use Prim.Native.Nat.{ℕ, ◌+◌, ◌≤◌, ◌<◌}
use native.Mathlib.Omega.{arith}
use lib.Count.{ones}
use lib.ListN.{get_or}
use Rattle.finite.proofs.Tables.{get_d_tabulate}
use Rattle.units.specs.Units.{member_at, members}
use Rattle.units.proofs.Laws.{members_has, count_members}
use Rattle.offer.specs.Offer.{past_offer}
use Rattle.text.specs.Rows.{word, number_row}
use Rattle.text.specs.declared.Row.{Row}
use Rattle.text.specs.declared.Line.{Line}
use Rattle.lines.specs.Lines.{line_of, number_of}
use Rattle.lines.proofs.Reading.{Keeps}
use Rattle.lines.proofs.Numbers.{number_in}
use Rattle.sheet.specs.Limits.{last_month, last_day, most_loss, most_own, most_ceiling, most_bar, most_cpf, most_units, most_kwh}
use Rattle.sheet_lines.specs.Rows.{head_rows, unit_rows, end_row, offer_row, units_read}
use Rattle.sheet_lines.specs.Rows.{block_line}
use Rattle.sheet_text.specs.Day.{offer_by, unit_by, place_by, sheet_by}
use Rattle.sheet.specs.Ranges.{past_unit}
use Rattle.sheet_lines.proofs.Table.{cpf_row, offer_at_lem}
use Rattle.sheet_lines.proofs.Facts.{Whole}
use Rattle.sheet_text.proofs.Offers.{offer_read}
use Rattle.sheet.proofs.InRange.{InRange, UnitInRange}

module _ (lines : List Line) (whole : Whole lines) where
  f : ℕ → Line
  f = line_of lines

  -- a number of the head, and of a block, by its row
  head_number : (k : ℕ) (key : List ℕ) (low high : ℕ) → k < 30 → get_or (head_rows (number_of (f 0))) k end_row ≡ number_row key low high
      → (low ≤ number_of (f k)) × (number_of (f k) ≤ high)
  unfolding f
  head_number k key low high h e = number_in key low high (f k) (subst (λ (r : Row). Keeps r (f k)) e (whole.head k h))

  block_number : (j i : ℕ) (key : List ℕ) (low high : ℕ) → j < units_read lines → i < 27 → get_or unit_rows i end_row ≡ number_row key low high
      → (low ≤ number_of (f (block_line j + i))) × (number_of (f (block_line j + i)) ≤ high)
  unfolding f
  block_number j i key low high h l e =
      number_in key low high (f (block_line j + i)) (subst (λ (r : Row). Keeps r (f (block_line j + i))) e (whole.block j i h l))

  pub units_range : (1 ≤ number_of (line_of lines 29)) × (number_of (line_of lines 29) ≤ most_units)
  unfolding head_rows f
  units_range = head_number 29 (word "units") 1 most_units (omega arith) refl

  unit_read : (j : ℕ) → j < units_read lines → UnitInRange (unit_by f j)
  unfolding unit_by unit_rows f
  unit_read j h =
      let e : block_line j + 0 ≡ block_line j = omega arith in
      let own = block_number j 0 (word "own") 0 most_own h (omega arith) refl in
      let nominal = block_number j 1 (word "nominal") 1 most_kwh h (omega arith) refl in
      let monthly = block_number j 2 (word "monthly") 0 most_kwh h (omega arith) refl in
      record {
        own = rw e at own.1;
        nominal_least = nominal.0;
        nominal_most = nominal.1;
        monthly = monthly.1;
        offers = λ i l.
            let n : block_line j + 3 + i ≡ block_line j + (3 + i) = omega arith in
            let keeps : Keeps offer_row (f (block_line j + 3 + i)) =
            rw n (subst (λ (r : Row). Keeps r (f (block_line j + (3 + i)))) (offer_at_lem (3 + i) (omega arith) (omega arith)) (whole.block j (3 + i) h (omega arith))) in
            rw (get_d_tabulate 24 (λ h. offer_by (f (block_line j + 3 + h))) i past_offer l) (offer_read (f (block_line j + 3 + i)) keeps);
      }

  place_read : (k : ℕ) → member_at (number_of (f 29)) k ≡ true → UnitInRange (place_by f (number_of (f 29)) k)
  unfolding f
  place_read k m =
      let units = number_of (f 29) in
      let small : units < 256 = omega (arith, units_range.1) in
      let j : members units k < ones units = omega (arith, members_has units k m, count_members units small) in
      rw m (unit_read (members units k) j)

  pub sheet_read : InRange (sheet_by (line_of lines))
  unfolding sheet_by head_rows f
  sheet_read =
      let month = head_number 0 (word "month") 1 last_month (omega arith) refl in
      let day = head_number 1 (word "day") 1 (last_day (number_of (f 0))) (omega arith) refl in
      record {
        month_least = month.0;
        month_most = month.1;
        day_least = day.0;
        day_most = day.1;
        loss = (head_number 2 (word "loss") 0 most_loss (omega arith) refl).1;
        ceiling = (head_number 3 (word "ceiling") 0 most_ceiling (omega arith) refl).1;
        bar = (head_number 4 (word "bar") 0 most_bar (omega arith) refl).1;
        cpf = λ h l.
            rw (get_d_tabulate 24 (λ h. number_of (f (5 + h))) h 0 l)
            (head_number (5 + h) (word "cpf") 0 most_cpf (omega arith) (cpf_row (number_of (f 0)) (5 + h) (omega arith) (omega arith))).1;
        units_least = units_range.0;
        units_most = units_range.1;
        unit = λ k l m. rw (get_d_tabulate 8 (place_by f (number_of (f 29))) k past_unit l) (place_read k m);
      }
