-- The part of the text from the start on is read; what is kept is what the definition reads.
-- Assumes nothing.
use Rattle.std.specs.Prelude.{Ok, Err}
use mathlib.Core.Path.{◌≡◌, ap, sym, ◌∙◌}
use mathlib.Core.List.{List}
use mathlib.Core.Bool.{false}
use Prim.Native.Nat.{ℕ, ◌+◌, ◌-◌}
use native.Mathlib.Omega.{arith}
use lib.Count.{ones}
use lib.ListN.{length, take, drop, length-drop}
use Rattle.std.proofs.lemmas.Result.{err_from_is_err_and}
use Rattle.text.proofs.Walk.{rest}
use Rattle.lines.specs.declared.Cursor.{Cursor}
use Rattle.lines.specs.declared.TextRefusal.{TextRefusal}
use Rattle.lines.specs.Cells.{cursors, refusals}
use Rattle.lines.specs.Refusals.{bad_start, answer_of}
use Rattle.lines.proofs.Reading.{start_within, started, not_started}
use Rattle.lines.proofs.Cursors as cursor
use Rattle.record_lines.specs.Rows.{read_lines}
use Rattle.record_lines.proofs.Facts.{place_in}
use Rattle.record_text.specs.Hour.{RecordTold}
use Rattle.record_text.specs.Hour.{record_of}
use Rattle.record.specs.Empty.{no_record}
use Rattle.record_text.proofs.Laws.{start_bad, start_good, kept_record}
use Rattle.record_text.proofs.read_record.Goals.{In_ok-at, After-read_lines}
use Rattle.record_text.proofs.read_record.Goals as goal

-- the start is good, and the part from there on is read
begun : (c : In_ok-at) → (bad_start c.args.text.now c.args.start ≡ false) × (c.in_ok-at.at ≡ c.args.start)
begun c = started _ _ _ (sym c.start_in.ensures ∙ c.in_ok-at.was)

part : (text : List ℕ) (start at : ℕ) → at ≡ start → take (length text - at) (drop at text) ≡ drop start text
part text start at e = rest text at ∙ ap (λ (n : ℕ). drop n text) e

read : (c : After-read_lines) → c.in_ok-at.at ≡ c.args.start → refusals c.read_lines.result ≡ cursors (read_lines (drop c.args.start c.args.text.now) (ones c.args.units))
read c e =
    c.read_lines.ensures.cursor ∙ (λ i. cursors (read_lines (part c.args.text.now c.args.start c.in_ok-at.at e i) (c.unit_count-n.ensures i)))

pub returns-in_err-at : goal.returns-in_err-at
returns-in_err-at c =
    let g = c.args in
    let p = err_from_is_err_and c.from_residual.result c.from_residual.ensures.1 in
    let b = not_started _ _ _ (sym c.start_in.ensures ∙ c.in_err-at.was) in
    rw (p.1, p.2)
    (ap {B = RecordTold} (λ (r : TextRefusal). record { answer = Err r; read = no_record }) b.1 ∙ sym (start_bad g.text.now g.start g.units g.monthly b.0))

pub overflow_add-result : goal.overflow_add-result
overflow_add-result c =
    let g = c.args in
    let b = begun (goal.at.overflow_add-result c).In_ok-at in
    let x = cursor.cursors_ok _ _ (sym (ap refusals c.in_ok-c.was) ∙ read (goal.at.overflow_add-result c).After-read_lines b.1) in
    let w = start_within g.text.now g.start b.0 in
    omega (arith, b.1, w, ap (λ (x : Cursor). x.at) x.cursor, place_in (drop g.start g.text.now) (ones g.units) x.reading x.read, length-drop g.start g.text.now)

pub returns : goal.returns
returns c =
    let g = c.args in
    let b = begun (goal.at.returns c).In_ok-at in
    let x = cursor.cursors_ok _ _ (sym (ap refusals c.in_ok-c.was) ∙ read (goal.at.returns c).After-read_lines b.1) in
    let t = drop g.start g.text.now in
    let here : read_lines (take (length g.text.now - c.in_ok-at.at) (drop c.in_ok-at.at g.text.now)) c.unit_count-n.result ≡ read_lines t (ones g.units) =
    λ i. read_lines (part g.text.now g.start c.in_ok-at.at b.1 i) (c.unit_count-n.ensures i) in
    let holds = c.read_lines.ensures.kept x.reading (here ∙ x.read) in
    let place : c.in_ok-at.at + c.in_ok-c.c.at ≡ g.start + x.reading.at = omega (arith, b.1, ap (λ (x : Cursor). x.at) x.cursor) in
    let made =
    c.record_by.ensures ∙ kept_record t c.read_lines.new.kept g.units g.monthly x.reading c.ranges.units.fits x.read holds (omega (arith, c.read_lines.auto.kept)) in
    (λ i. record { answer = Ok (place i); read = made i })
    ∙ ((λ i. record { answer = answer_of g.start (sym x.read i); read = record_of (sym x.read i) g.units g.monthly })
    ∙ sym (start_good g.text.now g.start g.units g.monthly b.0))

pub returns-in_err-c : goal.returns-in_err-c
returns-in_err-c c =
    let g = c.args in
    let b = begun (goal.at.returns-in_err-c c).In_ok-at in
    let e = cursor.cursors_err _ _ (sym (ap refusals c.in_err-c.was) ∙ read (goal.at.returns-in_err-c c).After-read_lines b.1) in
    let p = err_from_is_err_and c.from_residual-in_err-c.result c.from_residual-in_err-c.ensures.1 in
    rw (p.1, p.2)
    ((λ i. record { answer = answer_of g.start (sym e i); read = record_of (sym e i) g.units g.monthly })
    ∙ sym (start_good g.text.now g.start g.units g.monthly b.0))
