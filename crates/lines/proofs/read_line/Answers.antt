-- The line at the place is taken in and kept, or its fault ends the reading.
-- Assumes nothing.
use Prim.Native.Nat.{ℕ, ◌+◌}
use mathlib.Core.Path.{◌≡◌, ap, sym, ◌∙◌, subst}
use mathlib.Core.List.{List, [], ◌∷◌, ◌++◌}
use native.Mathlib.Omega.{arith}
use lib.ListN.{length}
use Rattle.std.specs.Prelude.{Ok, Err}
use Rattle.text.specs.declared.Line.{Line}
use Rattle.lines.specs.declared.Cursor.{Cursor}
use Rattle.lines.specs.Lines.{line_at, place_after, Reading}
use Rattle.lines.specs.Cells.{Kept, cursor_of}
use Rattle.lines.proofs.Reading.{kept_on, kept_next, same_ok}
use Rattle.lines.proofs.Cursors.{ending_ok, ending_err, read_ok, cursor_next, cursor_refused, none_next}
use Rattle.lines.proofs.read_line.Goals.{In-Ok, In-Err}
use Rattle.lines.proofs.read_line.Goals.{then-c-kept, else-c-kept}
use Rattle.lines.proofs.read_line.Goals as goal

-- the line at the reading's place
read : (c : In-Ok) (s : Reading) → c.args.c ≡ cursor_of s
    → (line_at c.args.text.now s.at c.args.row.now ≡ Ok c.line_at.new.read) × (c.in-Ok.at ≡ place_after c.args.text.now s.at) × (c.args.c.lines ≡ length s.lines)
read c s e =
    let g = c.args in
    let at : g.c.at ≡ s.at = ap (λ (x : Cursor). x.at) e in
    let r = ending_ok (place_after g.text.now g.c.at) (line_at g.text.now g.c.at g.row.now) c.line_at.new.read c.in-Ok.at (rw c.in-Ok.is at c.line_at.ensures) in
    (rw at at r.0, rw at at r.1, ap (λ (x : Cursor). x.lines) e)

refused : (c : In-Err) (s : Reading) → c.args.c ≡ cursor_of s → line_at c.args.text.now s.at c.args.row.now ≡ Err c.in-Err.fault
refused c s e =
    let g = c.args in
    let at : g.c.at ≡ s.at = ap (λ (x : Cursor). x.at) e in
    rw at at (ending_err (place_after g.text.now g.c.at) (line_at g.text.now g.c.at g.row.now) c.in-Err.fault (rw c.in-Err.is at c.line_at.ensures))

pub returns-after-c-kept-clause-cursor : goal.returns-after-c-kept-clause-cursor
returns-after-c-kept-clause-cursor c =
    λ s e. let r = read (goal.at.returns-after-c-kept-clause-cursor c).In-Ok s e in
    cursor_next c.args.text.now c.args.row.now s c.line_at.new.read c.in-Ok.at (c.args.c.lines + 1) r.0 r.1 (ap (λ (n : ℕ). n + 1) r.2)

pub returns-after-c-kept-clause-kept : goal.returns-after-c-kept-clause-kept
returns-after-c-kept-clause-kept c =
    λ s t e kept h.
    let r = read (goal.at.returns-after-c-kept-clause-kept c).In-Ok s e in
    let l = c.line_at.new.read in
    let is : t.lines ≡ s.lines ++ (l ∷ []) = ap (λ (x : Reading). x.lines) (same_ok _ _ (sym h ∙ read_ok c.args.text.now c.args.row.now s l r.0)) in
    let n : length s.lines ≡ c.args.c.lines = sym r.2 in
    let all : Kept c.if-c-kept.kept (s.lines ++ (l ∷ [])) =
    elim c.if-c-kept.branch [
      | then-c-kept w ↦ rw (w.kept-is) (rw n at (kept_next c.args.kept.now s.lines l kept (omega (arith, n, w.if-c-kept.true))))
      | else-c-kept w ↦ rw (w.kept-is) (kept_on c.args.kept.now s.lines l kept (omega (arith, n, w.if-c-kept.false)))
    ] in
    subst (λ (x : List Line). Kept c.if-c-kept.kept x) (sym is) all

pub returns-in-Err-clause-cursor : goal.returns-in-Err-clause-cursor
returns-in-Err-clause-cursor c =
    λ s e. cursor_refused c.args.text.now c.args.row.now s c.in-Err.fault (c.args.c.lines + 1) (refused (goal.at.returns-in-Err-clause-cursor c).In-Err s e)
    (ap (λ (x : Cursor). x.lines + 1) e)

pub returns-in-Err-clause-kept : goal.returns-in-Err-clause-kept
returns-in-Err-clause-kept c =
    λ s t e kept h. absurd (none_next c.args.text.now c.args.row.now s c.in-Err.fault t (refused (goal.at.returns-in-Err-clause-kept c).In-Err s e) h)
