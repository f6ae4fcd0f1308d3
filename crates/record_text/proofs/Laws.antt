-- What the crates above use of the reader: a record that was read keeps its ranges, its place is past the start and within the text,
-- and a refused reading gives the empty record and a number from 1 to 4.
-- Assumes nothing.
use mathlib.Core.Path.{◌≡◌, refl, ap, sym, ◌∙◌}
use mathlib.Core.Bool.{Bool, true, false}
use mathlib.Core.List.{List}
use Prim.Native.Nat.{ℕ, ◌+◌, ◌^◌, ◌≤◌, ◌<◌}
use native.Mathlib.Omega.{arith}
use lib.Count.{ones}
use lib.ListN.{length, drop, get_or, length-drop}
use Rattle.energy.specs.declared.GrossKwh.{GrossKwh}
use Rattle.units.specs.Units.{member_at}
use Rattle.std.specs.Prelude.{Result, Ok, Err}
use Rattle.text.specs.declared.Line.{Line}
use Rattle.lines.specs.declared.TextRefusal.{TextRefusal}
use Rattle.lines.specs.Lines.{Reading, line_of}
use Rattle.lines.proofs.Reading.{start_within, refusal_number_in}
use Rattle.lines.specs.Cells.{line_in, Kept}
use Rattle.lines.specs.Refusals.{text_number, no_start, bad_start, answer_of}
use Rattle.record_text.specs.Hour.{RecordTold}
use Rattle.record.specs.Limits.{most_kwh}
use Rattle.record_lines.specs.Rows.{read_lines}
use Rattle.record_text.specs.Hour.{record_by, record_of, read_record}
use Rattle.record.specs.Empty.{no_record}
use Rattle.record_lines.proofs.Facts.{whole, place_in, place_past}
use Rattle.record_text.proofs.Same.{record_same}
use Rattle.record_text.proofs.Good.{record_read}
use Rattle.record.specs.InRange.{InRange}

-- what is kept of a good reading makes its record
pub kept_record : (text : List ℕ) (kept : List Line) (units : ℕ) (monthly : List GrossKwh) (s : Reading) → units < 2 ^ 64
    → read_lines text (ones units) ≡ Ok s → Kept kept s.lines → 84 ≤ length kept
    → record_by (line_in kept) units monthly ≡ record_by (line_of s.lines) units monthly
kept_record text kept units monthly s fits good holds room =
    let all = whole text (ones units) s good in
    sym (record_same (line_of s.lines) (line_in kept) units monthly fits (λ k b h. holds k (omega (arith, all.count)) (omega arith)))

module _ (text : List ℕ) (start units : ℕ) (monthly : List GrossKwh) where
  pub start_bad : bad_start text start ≡ true → read_record text start units monthly ≡ record { answer = Err no_start; read = no_record }
  unfolding read_record
  start_bad e = simp e

  pub start_good : bad_start text start ≡ false
      → read_record text start units monthly
      ≡ record { answer = answer_of start (read_lines (drop start text) (ones units)); read = record_of (read_lines (drop start text) (ones units)) units monthly }
  unfolding read_record
  start_good e = simp e

  -- what a reading that ends well tells
  pub record Ended (place : ℕ) : Type 0 where
    pub reading : Reading
    pub begun : bad_start text start ≡ false
    pub good : read_lines (drop start text) (ones units) ≡ Ok reading
    pub place_is : place ≡ start + reading.at

  pub ended : (place : ℕ) → (read_record text start units monthly).answer ≡ Ok place → Ended place
  ended place = by (bad_start text start) refl
    where
      told : bad_start text start ≡ false → (r : Result Reading TextRefusal) → read_lines (drop start text) (ones units) ≡ r
          → answer_of start r ≡ Ok place → Ended place
      told e (Ok s) f h = record { reading = s; begun = e; good = f; place_is = cc }
      told e (Err q) f h = absurd (let z : ◌≡◌ {A = ℕ} 0 1 = cc in omega arith)

      by : (t : Bool) → bad_start text start ≡ t → (read_record text start units monthly).answer ≡ Ok place → Ended place
      by true e h =
          absurd (let r = ap (λ (x : RecordTold). x.answer) (start_bad e) in let z : ◌≡◌ {A = ℕ} 0 1 = cc in omega arith)
      by false e h = told e (read_lines (drop start text) (ones units)) refl (sym (ap (λ (x : RecordTold). x.answer) (start_good e)) ∙ h)

  module _ (place : ℕ) (read : (read_record text start units monthly).answer ≡ Ok place) where
    pub read_place : (start < place) × (place ≤ length text)
    read_place =
        let e = ended place read in
        let w = start_within text start e.begun in
        (omega (arith, e.place_is, place_past (drop start text) (ones units) e.reading e.good), omega (arith, e.place_is, place_in (drop start text) (ones units) e.reading e.good, length-drop start text))

    pub read_ranges : units < 256 → ((k : ℕ) → member_at units k ≡ true → (get_or monthly k (record { 0 = 0 })).0 ≤ most_kwh)
        → InRange units (read_record text start units monthly).read
    read_ranges small bound =
        let e = ended place read in
        let s = e.reading in
        let made : (read_record text start units monthly).read ≡ record_by (line_of s.lines) units monthly =
        ap (λ (x : RecordTold). x.read) (start_good e.begun) ∙ ap (λ (r : Result Reading TextRefusal). record_of r units monthly) e.good in
        rw made (record_read units s.lines monthly small bound (whole (drop start text) (ones units) s e.good))

  -- a refused reading
  pub refused_read : (r : TextRefusal) → (read_record text start units monthly).answer ≡ Err r → (read_record text start units monthly).read ≡ no_record
  refused_read r = by (bad_start text start) refl
    where
      told : (x : Result Reading TextRefusal) → answer_of start x ≡ Err r → record_of x units monthly ≡ no_record
      told (Ok s) h = absurd (let z : ◌≡◌ {A = ℕ} 0 1 = cc in omega arith)
      told (Err q) h = refl

      by : (t : Bool) → bad_start text start ≡ t → (read_record text start units monthly).answer ≡ Err r → (read_record text start units monthly).read ≡ no_record
      by true e h = ap (λ (x : RecordTold). x.read) (start_bad e)
      by false e h =
          ap (λ (x : RecordTold). x.read) (start_good e)
          ∙ told (read_lines (drop start text) (ones units)) (sym (ap (λ (x : RecordTold). x.answer) (start_good e)) ∙ h)

-- the number of a refusal of a text
pub refused_number : (r : TextRefusal) → (1 ≤ text_number r) × (text_number r ≤ 4)
refused_number r = refusal_number_in r
