-- The head, and then as many lines as the units it names have.
-- Assumes nothing.
use Prim.Native.Nat.{ℕ, ◌+◌, ◌*◌}
use mathlib.Core.Path.{◌≡◌, refl, ap, sym, ◌∙◌, subst}
use native.Mathlib.Omega.{arith}
use lib.Count.{ones}
use Rattle.std.specs.Prelude.{List, Ok, Err}
use Rattle.std.proofs.lemmas.Result.{err_from_is_err_and, IfOk-at_ok}
use Rattle.text.specs.declared.Line.{Line}
use Rattle.lines.specs.declared.Cursor.{Cursor}
use Rattle.lines.specs.declared.TextRefusal.{TextRefusal}
use Rattle.lines.specs.declared.Stop.{Stop}
use Rattle.lines.specs.Lines.{Reading, begin, read_by, number_of}
use Rattle.lines.specs.Cells.{Kept, Stopped, cursors, refusals, lines_before}
use Rattle.lines.proofs.Reading.{not_ok, same_err}
use Rattle.lines.proofs.Cursors.{Read, cursors_ok, cursors_err}
use Rattle.lines.proofs.Due.{onward}
use Rattle.lines.proofs.Shown.{none_kept, stopped_later}
use Rattle.sheet_lines.specs.Rows.{due_row, units_read, read_lines}
use Rattle.sheet_lines.proofs.read_lines.Goals.{After-read_more, In_ok-head}
use Rattle.sheet_lines.proofs.read_lines.Goals as goal

refused_head : (text : List ℕ) (r : TextRefusal) → read_by text due_row 30 begin ≡ Err r → read_lines text ≡ Err r
unfolding read_lines
refused_head text r e = rw e refl

good_head : (text : List ℕ) (h : Reading) → read_by text due_row 30 begin ≡ Ok h → (n : ℕ) → n ≡ units_read h.lines
    → read_by text due_row (27 * n + 1) h ≡ read_lines text
unfolding read_lines
good_head text h e n q = rw (e, q) refl

bad : (c : After-read_more) (f : Stop) → c.read_more.result ≡ Err f → read_lines c.args.text.now ≡ Err f.refusal
bad c f e =
    refused_head c.args.text.now f.refusal
    (cursors_err (read_by c.args.text.now due_row 30 begin) f.refusal
    (sym (ap refusals e) ∙ c.read_more.ensures.cursor begin c.start.ensures (none_kept c.args.kept.now)))

pub returns-in_err-head : goal.returns-in_err-head
returns-in_err-head c =
    let p = err_from_is_err_and c.from_residual.result c.from_residual.ensures.1 in
    let e = bad (goal.at.returns-in_err-head c).After-read_more c.in_err-head.field-0.0 c.in_err-head.was in
    let f = c.in_err-head.field-0.0 in
    let m = c.read_more in
    let q = ap lines_before c.in_err-head.was in
    rw (p.1, p.2) (record {
      cursor = ap cursors (sym e);
      kept = λ s h. absurd (not_ok _ _ (sym e ∙ h));
      lines_bound = omega (arith, q, m.ensures.lines_most, ap (λ (x : Cursor). x.lines) c.start.ensures);
      refused = λ r h. subst (λ (x : Stop). Stopped c.args.text.now due_row begin x m.new.kept) (same_err _ _ h)
          (m.ensures.refused begin f c.start.ensures (none_kept c.args.kept.now) c.in_err-head.was);
      behind = λ k h. m.ensures.behind.1 k (omega (arith, q));
    })

-- the head, and what is kept of it
head : (c : In_ok-head) → Read (read_by c.args.text.now due_row 30 begin) c.in_ok-head.head
head c = cursors_ok _ c.in_ok-head.head (sym (ap refusals c.in_ok-head.was) ∙ c.read_more.ensures.cursor begin c.start.ensures (none_kept c.args.kept.now))

held : (c : In_ok-head) (h : Read (read_by c.args.text.now due_row 30 begin) c.in_ok-head.head) → Kept c.read_more.new.kept h.reading.lines
held c h = c.read_more.ensures.kept begin h.reading c.start.ensures (none_kept c.args.kept.now) h.read

pub returns : goal.returns
returns c =
    let t = c.args.text.now in
    let h = head (goal.at.returns c).In_ok-head in
    let kept = held (goal.at.returns c).In_ok-head h in
    let count = (onward t due_row 30 begin h.reading h.read).counted in
    let units : c.units_read.result ≡ units_read h.reading.lines =
    c.units_read.ensures.value
    ∙ sym (ap (λ (l : Line). ones (number_of l)) (kept 29 (omega (arith, count)) (omega (arith, c.read_more.auto.kept, c.requires.in_bounds)))) in
    let all = good_head t h.reading h.read c.units_read.result units in
    let few : c.in_ok-head.head.lines ≡ 30 =
    IfOk-at_ok (λ (d : Cursor). d.lines ≡ c.start.result.lines + 30) c.in_ok-head.was c.read_more.ensures.lines_bound ∙ ap (λ (x : Cursor). x.lines + 30) c.start.ensures in
    let m = c.read_more-2 in
    record {
      cursor = m.ensures.cursor h.reading h.cursor kept ∙ ap cursors all;
      kept = λ s e. m.ensures.kept h.reading s h.cursor kept (all ∙ e);
      refused = λ r e. stopped_later t due_row begin 30 h.reading r m.new.kept h.read (m.ensures.refused h.reading r h.cursor kept e);
      behind = λ k b.
          let q = ap lines_before c.in_ok-head.was in
          m.ensures.behind.1 k b ∙ c.read_more.ensures.behind.1 k (omega (arith, q, m.ensures.behind.0));
      lines_bound = omega (arith, m.ensures.lines_most, few, c.units_read.ensures.upper_bound);
    }
