-- What the crates above use of the reader: a sheet that was read passes refusal 9, and its place is past the start and within the text.
-- Assumes nothing.
use mathlib.Core.Path.{◌≡◌, refl, ap, sym, ◌∙◌}
use mathlib.Core.Bool.{Bool, true, false}
use mathlib.Core.List.{List}
use Prim.Native.Nat.{ℕ, ◌+◌, ◌≤◌, ◌<◌}
use native.Mathlib.Omega.{arith}
use lib.ListN.{length, drop, length-drop}
use Rattle.std.specs.Prelude.{Result, Ok, Err}
use Rattle.text.specs.declared.Line.{Line}
use Rattle.lines.specs.declared.TextRefusal.{TextRefusal}
use Rattle.lines.specs.Lines.{Reading, line_of, number_of}
use Rattle.lines.proofs.Reading.{start_within}
use Rattle.lines.specs.Cells.{line_in, Kept}
use Rattle.lines.specs.Refusals.{no_start, bad_start, answer_of}
use Rattle.sheet_text.specs.Day.{SheetTold}
use Rattle.sheet_lines.specs.Rows.{read_lines}
use Rattle.sheet_text.specs.Day.{sheet_by, sheet_of, read_sheet}
use Rattle.sheet.specs.Empty.{no_sheet}
use Rattle.sheet.specs.Ranges.{sheet_holds}
use Rattle.sheet_lines.proofs.Facts.{whole, place_in, place_past}
use Rattle.sheet_text.proofs.Same.{sheet_same}
use Rattle.sheet_text.proofs.Good.{units_range, sheet_read}
use Rattle.sheet.proofs.InRange.{holds_back}

-- what is kept of a good reading makes its sheet
pub kept_sheet : (text : List ℕ) (kept : List Line) (s : Reading) → read_lines text ≡ Ok s → Kept kept s.lines → 280 ≤ length kept
    → sheet_by (line_in kept) ≡ sheet_by (line_of s.lines)
kept_sheet text kept s good holds room =
    let all = whole text s good in
    sym (sheet_same (line_of s.lines) (line_in kept) (number_of (line_of s.lines 29)) (omega (arith, (units_range s.lines all).1))
    (λ k b h. holds k (omega (arith, all.count)) (omega arith)) refl)

module _ (text : List ℕ) (start : ℕ) where
  pub start_bad : bad_start text start ≡ true → read_sheet text start ≡ record { answer = Err no_start; sheet = no_sheet }
  unfolding read_sheet
  start_bad e = simp e

  pub start_good : bad_start text start ≡ false
      → read_sheet text start ≡ record { answer = answer_of start (read_lines (drop start text)); sheet = sheet_of (read_lines (drop start text)) }
  unfolding read_sheet
  start_good e = simp e

  -- what a reading that ends well tells
  pub record Ended (place : ℕ) : Type 0 where
    pub reading : Reading
    pub begun : bad_start text start ≡ false
    pub good : read_lines (drop start text) ≡ Ok reading
    pub place_is : place ≡ start + reading.at

  ended : (place : ℕ) → (read_sheet text start).answer ≡ Ok place → Ended place
  ended place = by (bad_start text start) refl
    where
      told : bad_start text start ≡ false → (r : Result Reading TextRefusal) → read_lines (drop start text) ≡ r → answer_of start r ≡ Ok place → Ended place
      told e (Ok s) f h = record { reading = s; begun = e; good = f; place_is = cc }
      told e (Err q) f h = absurd (let z : ◌≡◌ {A = ℕ} 0 1 = cc in omega arith)

      by : (t : Bool) → bad_start text start ≡ t → (read_sheet text start).answer ≡ Ok place → Ended place
      by true e h =
          absurd (let r = ap (λ (x : SheetTold). x.answer) (start_bad e) in let z : ◌≡◌ {A = ℕ} 0 1 = cc in omega arith)
      by false e h = told e (read_lines (drop start text)) refl (sym (ap (λ (x : SheetTold). x.answer) (start_good e)) ∙ h)

  module _ (place : ℕ) (read : (read_sheet text start).answer ≡ Ok place) where
    pub read_place : (start < place) × (place ≤ length text)
    read_place =
        let e = ended place read in
        let w = start_within text start e.begun in
        (omega (arith, e.place_is, place_past (drop start text) e.reading e.good), omega (arith, e.place_is, place_in (drop start text) e.reading e.good, length-drop start text))

    -- a sheet that was read passes refusal 9
    pub read_holds : sheet_holds (read_sheet text start).sheet ≡ true
    read_holds =
        let e = ended place read in
        let s = e.reading in
        let made : (read_sheet text start).sheet ≡ sheet_by (line_of s.lines) =
        ap (λ (x : SheetTold). x.sheet) (start_good e.begun) ∙ ap sheet_of e.good in
        rw made (holds_back (sheet_by (line_of s.lines)) (sheet_read s.lines (whole (drop start text) s e.good)))
