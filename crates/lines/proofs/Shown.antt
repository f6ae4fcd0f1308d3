-- A loop over the lines due: after i of them the cursor and what is kept show a reading, which one line more carries on or refuses.
-- Assumes nothing.
use mathlib.Core.Path.{◌≡◌, refl, ap, sym, ◌∙◌, subst}
use mathlib.Core.List.{List, []}
use native.Mathlib.Nat.{not-suc-le-zero}
use Prim.Native.Nat.{ℕ, ◌+◌, ◌-◌, ◌<◌}
use native.Mathlib.Omega.{arith}
use Rattle.std.specs.Prelude.{Result, Ok, Err}
use Rattle.text.specs.declared.Row.{Row}
use Rattle.text.specs.declared.Line.{Line}
use Rattle.lines.specs.declared.Cursor.{Cursor}
use Rattle.lines.specs.declared.TextRefusal.{TextRefusal}
use Rattle.lines.specs.declared.Stop.{Stop}
use Rattle.lines.specs.Lines.{Reading, read_line, read_by}
use Rattle.lines.specs.Cells.{Kept, Stopped, cursor_of, cursors}
use Rattle.lines.proofs.Due.{by_next, by_refused, by_after}
use Rattle.lines.proofs.Cursors.{cursors_ok, cursors_err}

-- where nothing is read yet, whatever is kept holds it
pub none_kept : (kept : List Line) → Kept kept []
none_kept kept k h room = absurd (not-suc-le-zero h)

pub record Shown (text : List ℕ) (due : List Line → Row) (i : ℕ) (s : Reading) (d : Cursor) (kept : List Line) : Type 0 where
  pub reading : Reading
  pub read : read_by text due i s ≡ Ok reading
  pub cursor : d ≡ cursor_of reading
  pub holds : Kept kept reading.lines

module _ (text : List ℕ) (due : List Line → Row) (s : Reading) where
  pub shown_first : (d : Cursor) (kept : List Line) → d ≡ cursor_of s → Kept kept s.lines → Shown text due 0 s d kept
  unfolding read_by
  shown_first d kept e k = record { reading = s; read = refl; cursor = e; holds = k }

  module _ (i : ℕ) (d : Cursor) (kept : List Line) (shown : Shown text due i s d kept) (row : Row) (is : row ≡ due shown.reading.lines)
      (result : Result Cursor TextRefusal) (cursor : (s : Reading) → d ≡ cursor_of s → result ≡ cursors (read_line text row s)) where
    told : result ≡ cursors (read_by text due (i + 1) s)
    told =
        cursor shown.reading shown.cursor
        ∙ (ap (λ (x : Row). cursors (read_line text x shown.reading)) is ∙ sym (ap cursors (by_next text due i s shown.reading shown.read)))

    pub shown_next : (new : List Line)
        → ((s t : Reading) → d ≡ cursor_of s → Kept kept s.lines → read_line text row s ≡ Ok t → Kept new t.lines)
        → (e : Cursor) → result ≡ Ok e → Shown text due (i + 1) s e new
    shown_next new holds e ok =
        let x = cursors_ok (read_by text due (i + 1) s) e (sym ok ∙ told) in
        let next : read_line text row shown.reading ≡ Ok x.reading =
        ap (λ (r : Row). read_line text r shown.reading) is ∙ (sym (by_next text due i s shown.reading shown.read) ∙ x.read) in
        record { reading = x.reading; read = x.read; cursor = x.cursor; holds = holds shown.reading x.reading shown.cursor shown.holds next }

    pub shown_refused : (r : TextRefusal) → result ≡ Err r → (n : ℕ) → i < n → read_by text due n s ≡ Err r
    shown_refused r bad n h =
        by_refused text due (i + 1) (n - (i + 1)) n s r (omega arith) (cursors_err (read_by text due (i + 1) s) r (sym bad ∙ told))

    -- the refused line is the next one, it begins where the cursor is, and what is kept stays
    pub shown_stopped : (e : Stop) → result ≡ Err e.refusal → e.at ≡ d.at → (new : List Line) → (e.refusal.line ≡ d.lines + 1) × (new ≡ kept)
        → Stopped text due s e new
    shown_stopped e bad here new q =
        record {
          count = i;
          reading = shown.reading;
          read = shown.read;
          next =
              subst (λ (x : Row). read_line text x shown.reading ≡ Err e.refusal) is
              (cursors_err (read_line text row shown.reading) e.refusal (sym bad ∙ cursor shown.reading shown.cursor));
          line_is = q.0 ∙ ap (λ (x : Cursor). x.lines + 1) shown.cursor;
          place_is = here ∙ ap (λ (x : Cursor). x.at) shown.cursor;
          holds = subst (λ (l : List Line). Kept l shown.reading.lines) (sym q.1) shown.holds;
        }

  -- a reading that was begun before and then refused
  pub stopped_later : (n : ℕ) (t : Reading) (r : Stop) (kept : List Line) → read_by text due n s ≡ Ok t → Stopped text due t r kept
      → Stopped text due s r kept
  stopped_later n t r kept e x =
      record {
        count = n + x.count;
        reading = x.reading;
        read = by_after text due n x.count (n + x.count) s t refl e ∙ x.read;
        next = x.next;
        line_is = x.line_is;
        place_is = x.place_is;
        holds = x.holds;
      }
