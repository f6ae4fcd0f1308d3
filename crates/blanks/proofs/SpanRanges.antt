-- The spans of a line that keeps to its row: its numbers go in fours, each in its range; a blank line is one whole hour.
-- Assumes nothing.
use mathlib.Core.Path.{◌≡◌, refl, sym, ◌∙◌}
use mathlib.Core.Bool.{Bool, true, false, cond}
use Prim.Native.Nat.{ℕ, ◌+◌, ◌*◌, ◌/◌, ◌%◌, ◌≤◌, ◌<◌}
use native.Mathlib.Nat.{add-zero}
use native.Mathlib.Omega.{arith}
use borrow.Author.Tests.{eqb-false}
use lib.Dec.{eqb}
use lib.ListN.{get_or}
use Rattle.energy.specs.declared.GrossKwh.{GrossKwh}
use Rattle.text.specs.declared.Line.{Line}
use Rattle.text.specs.Rows.{limits}
use Rattle.values.proofs.Fits.{Fits, part_of}
use Rattle.values.proofs.Parts.{part_of_lem}
use Rattle.lines.proofs.Reading.{Keeps, keeps_open}
use Rattle.record.specs.Limits.{most_kwh, most_spans, hour_minutes, last_kind, last_cause}
use Rattle.record_lines.specs.Rows.{spans_row}
use Rattle.record.specs.Empty.{no_span}
use Rattle.blanks.specs.Blanks.{whole_hour, span_in, span_by, spans_by}
use Rattle.record.specs.InRange.{SpanInRange}

module _ (l : Line) (keeps : Keeps spans_row l) where
  fits : Fits spans_row l
  unfolding spans_row
  fits = keeps_open spans_row l keeps (λ e. omega arith) (omega arith)

  few : l.count ≤ 4 * most_spans
  unfolding spans_row
  few = fits.few

  fours : l.count % 4 ≡ 0
  unfolding spans_row
  fours = sym (part_of_lem 4 l.count (omega arith)) ∙ fits.groups

  -- part p of span i
  part_in : (i p : ℕ) → i < l.count / 4 → p < 4
      → (get_or (limits 1 1 0 0) p 0 ≤ get_or l.number (4 * i + p) 0) × (get_or l.number (4 * i + p) 0 ≤ get_or (limits hour_minutes last_kind last_cause most_kwh) p 0)
  unfolding spans_row
  part_in i p h k =
      let w = fits.within (4 * i + p) (omega (arith, fours)) in
      let m : (4 * i + p) % 4 ≡ p = omega arith in
      let e : part_of 4 (4 * i + p) ≡ p = part_of_lem 4 (4 * i + p) (omega arith) ∙ m in
      (rw e at w.least, rw e at w.most)

  pub spans_in : (1 ≤ spans_by l) × (spans_by l ≤ most_spans)
  unfolding spans_by
  spans_in = by (eqb l.count 0) refl
    where
      by : (t : Bool) → eqb l.count 0 ≡ t → (1 ≤ cond t 1 (l.count / 4)) × (cond t 1 (l.count / 4) ≤ most_spans)
      by true e = (omega arith, omega arith)
      by false e = let n : l.count ≡ 0 → ⊥ = eqb-false _ _ e in (omega (arith, fours), omega (arith, few))

  pub span_in_lem : (declared : GrossKwh) → declared.0 ≤ most_kwh → (i : ℕ) → i < spans_by l → SpanInRange (span_by l declared i)
  unfolding spans_by span_by
  span_in_lem declared bound i = by (eqb l.count 0)
    where
      whole : SpanInRange (whole_hour declared)
      whole =
          record {
            minutes_least = omega arith;
            minutes_most = omega arith;
            kind_least = omega arith;
            kind_most = omega arith;
            cause = omega arith;
            capability = bound;
          }

      by : (t : Bool) → i < cond t 1 (l.count / 4) → SpanInRange (cond t (cond (eqb i 0) (whole_hour declared) no_span) (span_in l i))
      by true h = let e : i ≡ 0 = omega arith in rw e whole
      by false h =
          let first = rw add-zero at (part_in i 0 h (omega arith)) in
          let second = part_in i 1 h (omega arith) in
          record {
            minutes_least = first.0;
            minutes_most = first.1;
            kind_least = second.0;
            kind_most = second.1;
            cause = (part_in i 2 h (omega arith)).1;
            capability = (part_in i 3 h (omega arith)).1;
          }
