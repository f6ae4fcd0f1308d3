-- After i turns the cursor and what is kept show i lines more; the row of the next is the one due.
-- A refused line begins where the cursor is, and is one of the n.
-- Assumes nothing.
use mathlib.Core.List.{List}
use Prim.Native.Nat.{◌+◌}
use mathlib.Core.Path.{◌≡◌, refl, ap, sym, ◌∙◌, subst}
use native.Mathlib.Omega.{arith}
use Rattle.std.specs.Prelude.{Result, Ok, Err}
use Rattle.std.proofs.Common.{rules}
use Rattle.std.proofs.lemmas.Result.{err_from_is_err_and, IfOk-at_ok}
use Rattle.text.specs.declared.Line.{Line}
use Rattle.lines.specs.declared.Cursor.{Cursor}
use Rattle.lines.specs.declared.Stop.{Stop}
use Rattle.lines.specs.Lines.{Reading, read_by}
use Rattle.lines.specs.Cells.{line_in, Kept, Stopped, cursor_of, cursors}
use Rattle.lines.proofs.Reading.{not_ok, same_ok, same_err}
use Rattle.lines.proofs.Cursors.{placed, placed_by, placed_ok, placed_err}
use Rattle.lines.proofs.Shown.{Shown, shown_first, shown_next, shown_refused, shown_stopped}
use Rattle.lines.proofs.read_more.Goals.{After-read_line, After-map_err}
use Rattle.lines.proofs.read_more.Goals as goal

pub loop-i-init : goal.loop-i-init
loop-i-init g c = (omega arith, refl, λ s e k. shown_first c.args.text.now (g.F.Frame.due c.args.frame.now) s c.args.c c.args.kept.now e k, λ k h. refl)

-- the row is the one that is due after the lines shown
row_is : (g : _) (c : After-read_line g) (s : Reading) (shown : Shown c.args.text.now (g.F.Frame.due c.args.frame.now) c.loop-i.i s c.loop-i.d c.loop-i.kept)
    → c.row_at-row.result ≡ g.F.Frame.due c.args.frame.now shown.reading.lines
row_is g c s shown = c.row_at-row.ensures shown.reading.lines shown.holds (ap (λ (x : Cursor). x.lines) shown.cursor)

-- the line's outcome has the place where the line begins
told : (g : _) (c : After-map_err g) → c.map_err.result ≡ placed c.loop-i.d.at c.read_line.result
told g c = placed_by c.loop-i.d.at c.read_line.result c.map_err.result _ (λ r e p. search rules) c.map_err.ensures.cases

pub returns-in_err-d : goal.returns-in_err-d
returns-in_err-d g c =
    let a = c.args in
    let due = g.F.Frame.due c.args.frame.now in
    let l = c.loop-i in
    let f = c.in_err-d.field-0.0 in
    let p = err_from_is_err_and c.from_residual.result c.from_residual.ensures.1 in
    let w = placed_err l.d.at c.read_line.result f (sym c.in_err-d.was ∙ told g (goal.at.returns-in_err-d g c).After-map_err) in
    let bad : (s : Reading) → a.c ≡ cursor_of s → Kept a.kept.now s.lines → read_by a.text.now due a.n s ≡ Err f.refusal =
    λ s e k. let shown = l.invariant.2 s e k in
    shown_refused a.text.now due s l.i l.d l.kept shown c.row_at-row.result (row_is g (goal.at.returns-in_err-d g c).After-read_line s shown)
    c.read_line.result c.read_line.ensures.cursor f.refusal w.0 a.n c.loop-i-test.true in
    let q = c.read_line.ensures.refused f.refusal w.0 in
    let stopped : (s : Reading) → a.c ≡ cursor_of s → Kept a.kept.now s.lines → Stopped a.text.now due s f c.read_line.new.kept =
    λ s e k. let shown = l.invariant.2 s e k in
    shown_stopped a.text.now due s l.i l.d l.kept shown c.row_at-row.result (row_is g (goal.at.returns-in_err-d g c).After-read_line s shown)
    c.read_line.result c.read_line.ensures.cursor f w.0 w.1 c.read_line.new.kept q in
    rw (p.1, p.2) (record {
      cursor = λ s e k. ap cursors (sym (bad s e k));
      kept = λ s t e k h. absurd (not_ok _ _ (sym (bad s e k) ∙ h));
      lines_bound = tt;
      lines_most = omega (arith, q.0, l.invariant.0, c.loop-i-test.true);
      refused = λ s r e k h. subst (λ (x : Stop). Stopped a.text.now due s x c.read_line.new.kept) (same_err _ _ h) (stopped s e k);
      behind = (omega (arith, q.0, l.invariant.0), λ k h. ap (λ (x : List Line). line_in x k) q.1 ∙ l.invariant.3 k (omega (arith, q.0)));
    })

pub loop-i-preserved : goal.loop-i-preserved
loop-i-preserved g c =
    let a = c.args in
    let due = g.F.Frame.due c.args.frame.now in
    let l = c.loop-i in
    let r = c.read_line in
    let w : r.result ≡ Ok c.in_ok-d.d = placed_ok l.d.at r.result c.in_ok-d.d (sym c.in_ok-d.was ∙ told g (goal.at.loop-i-preserved g c).After-map_err) in (
      omega (arith, l.invariant.0, IfOk-at_ok _ w r.ensures.lines_bound_2),
      r.auto.kept ∙ l.invariant.1,
      λ s e k. let shown = l.invariant.2 s e k in
          shown_next a.text.now due s l.i l.d l.kept shown c.row_at-row.result (row_is g (goal.at.loop-i-preserved g c).After-read_line s shown)
          r.result r.ensures.cursor r.new.kept r.ensures.kept c.in_ok-d.d w,
      λ k h. let n = IfOk-at_ok (λ (d : Cursor). d.lines ≡ l.d.lines + 1) w r.ensures.lines_bound_2 in
          r.ensures.elsewhere k (λ e. omega (arith, n)) ∙ l.invariant.3 k (omega (arith, n)),
    )

pub returns : goal.returns
returns g c =
    let a = c.args in
    let due = g.F.Frame.due c.args.frame.now in
    let l = c.loop-i in
    let all : l.i ≡ a.n = omega arith in
    let shown : (s : Reading) → a.c ≡ cursor_of s → Kept a.kept.now s.lines → Shown a.text.now due a.n s l.d l.kept =
    λ s e k. rw all at (l.invariant.2 s e k) in
    record {
      cursor = λ s e k. let x = shown s e k in ap {B = Result Cursor _} (λ (d : Cursor). Ok d) x.cursor ∙ sym (ap cursors x.read);
      kept = λ s t e k h. let x = shown s e k in subst (λ (t : Reading). Kept l.kept t.lines) (same_ok _ _ (sym x.read ∙ h)) x.holds;
      lines_bound = omega (arith, l.invariant.0);
      lines_most = omega (arith, l.invariant.0);
      refused = λ s r e k h. absurd (not_ok _ _ (sym h));
      behind = (omega (arith, l.invariant.0), l.invariant.3);
    }
