-- A cursor by value goes with the reading: a line more or a refusal, whichever the line at the place is.
-- A refused line begins where the cursor is.
-- Assumes nothing.
use mathlib.Core.Path.{◌≡◌, refl, ap, sym, ◌∙◌}
use mathlib.Core.List.{List, [], ◌∷◌, ◌++◌}
use Prim.Native.Nat.{ℕ, ◌+◌}
use lib.ListN.{length, length-append}
use Rattle.std.specs.Prelude.{Result, Ok, Err, IsErrAnd, MatchResult}
use Rattle.std.proofs.lemmas.Result.{err_from_is_err_and}
use Rattle.text.specs.declared.Row.{Row}
use Rattle.text.specs.declared.Line.{Line}
use Rattle.text.specs.declared.TextFault.{TextFault}
use Rattle.lines.specs.declared.Cursor.{Cursor}
use Rattle.lines.specs.declared.TextRefusal.{TextRefusal}
use Rattle.lines.specs.declared.Stop.{Stop}
use Rattle.lines.specs.Lines.{line_at, place_after, Reading, read_line}
use Rattle.lines.specs.Cells.{cursor_of, cursors, ending}
use Rattle.lines.proofs.Reading.{not_ok, same_ok, same_err}

-- a line with the place behind it, or its fault
pub ending_ok : (next : ℕ) (r : Result Line TextFault) (l : Line) (n : ℕ) → Ok (l, n) ≡ ending next r → (r ≡ Ok l) × (n ≡ next)
ending_ok next (Ok m) l n e =
    let q = same_ok _ _ e in
    (ap {B = Result Line TextFault} (λ (x : Line × ℕ). Ok x.0) (sym q), ap (λ (x : Line × ℕ). x.1) q)
ending_ok next (Err f) l n e = absurd (not_ok _ _ (sym e))

pub ending_err : (next : ℕ) (r : Result Line TextFault) (f : TextFault) → Err f ≡ ending next r → r ≡ Err f
ending_err next (Ok m) f e = absurd (not_ok _ _ e)
ending_err next (Err g) f e = cc

module _ (text : List ℕ) (row : Row) (s : Reading) where
  pub read_ok : (l : Line) → line_at text s.at row ≡ Ok l → read_line text row s ≡ Ok (record { at = place_after text s.at; lines = s.lines ++ (l ∷ []) })
  unfolding read_line
  read_ok l e = rw e refl

  pub cursor_next : (l : Line) (at lines : ℕ) → line_at text s.at row ≡ Ok l → at ≡ place_after text s.at → lines ≡ length s.lines + 1
      → ◌≡◌ {A = Result Cursor TextRefusal} (Ok (record { at = at; lines = lines })) (cursors (read_line text row s))
  cursor_next l at lines e p q =
      let n : lines ≡ length (s.lines ++ (l ∷ [])) = q ∙ sym (length-append s.lines (l ∷ [])) in
      rw (read_ok l e, p, n) refl

  pub cursor_refused : (f : TextFault) (line : ℕ) → line_at text s.at row ≡ Err f → line ≡ length s.lines + 1
      → ◌≡◌ {A = Result Cursor TextRefusal} (Err (record { fault = f; line = line })) (cursors (read_line text row s))
  unfolding read_line
  cursor_refused f line e q = rw (e, q) refl

  pub none_next : (f : TextFault) (t : Reading) → line_at text s.at row ≡ Err f → read_line text row s ≡ Ok t → ⊥
  unfolding read_line
  none_next f t e h = not_ok _ _ (rw e at h)

-- what a reading is, by its cursor
pub record Read (x : Result Reading TextRefusal) (c : Cursor) : Type 0 where
  pub reading : Reading
  pub read : x ≡ Ok reading
  pub cursor : c ≡ cursor_of reading

pub cursors_ok : (x : Result Reading TextRefusal) (c : Cursor) → Ok c ≡ cursors x → Read x c
cursors_ok (Ok s) c e = record { reading = s; read = refl; cursor = same_ok _ _ e }
cursors_ok (Err r) c e = absurd (not_ok _ _ (sym e))

pub cursors_err : (x : Result Reading TextRefusal) (r : TextRefusal) → Err r ≡ cursors x → x ≡ Err r
cursors_err (Ok s) r e = absurd (not_ok _ _ e)
cursors_err (Err q) r e = cc

-- a line's outcome, with the place where the line begins where it is refused
abbrev pub placed : ℕ → Result Cursor TextRefusal → Result Cursor Stop
placed at (Ok d) = Ok d
placed at (Err r) = Err (record { refusal = r; at = at })

pub placed_by : (at : ℕ) (x : Result Cursor TextRefusal) (y : Result Cursor Stop) (post : TextRefusal → Stop → Type 0)
    → ((r : TextRefusal) (e : Stop) → post r e → e ≡ record { refusal = r; at = at })
    → MatchResult x (λ d. y ≡ Ok d) (λ r. IsErrAnd y (λ e. post r e)) → y ≡ placed at x
placed_by at (Ok d) y post f h = h
placed_by at (Err r) y post f h =
    let p = err_from_is_err_and y h in
    p.1 ∙ ap {B = Result Cursor Stop} (λ (e : Stop). Err e) (f r p.0 p.2)

pub placed_ok : (at : ℕ) (x : Result Cursor TextRefusal) (d : Cursor) → Ok d ≡ placed at x → x ≡ Ok d
placed_ok at (Ok c) d e = ap {B = Result Cursor TextRefusal} (λ (x : Cursor). Ok x) (sym (same_ok _ _ e))
placed_ok at (Err r) d e = absurd (not_ok _ _ (sym e))

pub placed_err : (at : ℕ) (x : Result Cursor TextRefusal) (e : Stop) → Err e ≡ placed at x → (x ≡ Err e.refusal) × (e.at ≡ at)
placed_err at (Ok d) e q = absurd (not_ok _ _ q)
placed_err at (Err r) e q =
    let s : e ≡ record { refusal = r; at = at } = same_err _ _ q in
    (ap {B = Result Cursor TextRefusal} (λ (x : Stop). Err x.refusal) (sym s), ap (λ (x : Stop). x.at) s)
