-- Any number of lines, each by the row due: what one line keeps, all keep, by induction on their number.
-- Assumes nothing.
use mathlib.Core.Path.{◌≡◌, refl, ap, sym, ◌∙◌}
use mathlib.Core.Bool.{Bool, true, false, cond}
use mathlib.Core.List.{List, [], ◌∷◌, ◌++◌}
use Prim.Native.Nat.{ℕ, zero, suc, ◌+◌, ◌≤◌, ◌<◌}
use native.Mathlib.Nat.{add-zero}
use native.Mathlib.Numerals.{add-one}
use native.Mathlib.Omega.{arith}
use borrow.Author.Tests.{ltb-true}
use lib.ListN.{length, drop, take, length-drop, length-append, get_or-append}
use lib.Seq.{take-append-le, get_or_at, take-length}
use Rattle.std.specs.Prelude.{Result, Ok, Err}
use Rattle.finite.proofs.Sums.{extend}
use Rattle.text.specs.Text.{seek, before, has, value_part, key_is}
use Rattle.text.specs.Rows.{no_line}
use Rattle.values.specs.Values.{value_of}
use Rattle.text.specs.declared.Row.{Row}
use Rattle.text.specs.declared.Line.{Line}
use Rattle.text.specs.declared.TextFault.{TextFault}
use Rattle.text.specs.declared.TextFault.TheVariants.{NotDue, TextEnds}
use Rattle.lines.specs.declared.TextRefusal.{TextRefusal}
use Rattle.lines.specs.Lines.{line_at, place_after, line_of, Reading, accept, read_line, further, read_by}
use Rattle.lines.proofs.Reading.{not_ok, same_ok, line_keeps, Keeps}

-- a line that is good ends within the text
ended : (text : List ℕ) (at : ℕ) (row : Row) (l : Line) → line_at text at row ≡ Ok l → place_after text at ≤ length text
unfolding line_at
ended text at row l = by (has 10 (drop at text)) refl
  where
    by : (t : Bool) → has 10 (drop at text) ≡ t
        → cond t (cond (key_is (before 10 (drop at text)) row.key) (value_of row (value_part (before 10 (drop at text)))) (Err NotDue)) (Err TextEnds) ≡ Ok l
        → place_after text at ≤ length text
    by true t e = omega (arith, ltb-true (seek 10 10 (drop at text)) (length (drop at text)) t, length-drop at text)
    by false t e = absurd (not_ok _ _ e)

-- what a reading is, one line on
pub record Taken (text : List ℕ) (row : Row) (s t : Reading) : Type 0 where
  pub line : Line
  pub read : line_at text s.at row ≡ Ok line
  pub inside : place_after text s.at ≤ length text
  pub keeps : Keeps row line
  pub is : t ≡ record { at = place_after text s.at; lines = s.lines ++ (line ∷ []) }

pub taken : (text : List ℕ) (row : Row) (s t : Reading) → read_line text row s ≡ Ok t → Taken text row s t
unfolding read_line
taken text row s t = by (line_at text s.at row) refl
  where
    by : (r : Result Line TextFault) → line_at text s.at row ≡ r → accept s (place_after text s.at) r ≡ Ok t → Taken text row s t
    by (Ok l) e h =
        record {
          line = l;
          read = e;
          inside = ended text s.at row l e;
          keeps = line_keeps text s.at row l e;
          is = sym (same_ok _ _ h);
        }
    by (Err f) e h = absurd (not_ok _ _ h)

-- each line keeps to the row that is due after the lines before it
pub record Ordered (due : List Line → Row) (lines : List Line) : Type 0 where
  pub keeps : (k : ℕ) → k < length lines → Keeps (due (take k lines)) (line_of lines k)

-- what holds of a reading from s on, n lines later
pub record Onward (text : List ℕ) (due : List Line → Row) (n : ℕ) (s t : Reading) : Type 0 where
  pub counted : length t.lines ≡ length s.lines + n
  pub further : s.at + n ≤ t.at
  pub earlier : (k : ℕ) → k < length s.lines → line_of t.lines k ≡ line_of s.lines k
  pub inside : s.at ≤ length text → t.at ≤ length text
  pub in_order_lem : Ordered due s.lines → Ordered due t.lines

module _ (text : List ℕ) (due : List Line → Row) where
  extended : (lines : List Line) (l : Line) → Ordered due lines → Keeps (due lines) l → Ordered due (lines ++ (l ∷ []))
  extended lines l o h = record { keeps = λ k b. each k (omega (arith, length-append lines (l ∷ []))) }
    where
      each : (k : ℕ) → k < suc (length lines) → Keeps (due (take k (lines ++ (l ∷ [])))) (line_of (lines ++ (l ∷ [])) k)
      each =
          extend (λ k. Keeps (due (take k (lines ++ (l ∷ [])))) (line_of (lines ++ (l ∷ [])) k)) (length lines)
          (λ k b. rw (take-append-le k lines (l ∷ []) (omega arith), get_or-append lines (l ∷ []) no_line k b) (o.keeps k b))
          (rw (take-append-le (length lines) lines (l ∷ []) (omega arith), take-length lines, get_or_at lines l [] no_line (length lines) refl) h)

  one_more_lem : (n : ℕ) (s t u : Reading) → Onward text due n s t → Taken text (due t.lines) t u → Onward text due (suc n) s u
  one_more_lem n s t u o k =
      rw k.is (record {
        counted = omega (arith, length-append t.lines (k.line ∷ []), o.counted);
        further = omega (arith, o.further);
        earlier = λ i h. get_or-append t.lines (k.line ∷ []) no_line i (omega (arith, o.counted)) ∙ o.earlier i h;
        inside = λ h. k.inside;
        in_order_lem = λ h. extended t.lines k.line (o.in_order_lem h) k.keeps;
      })

  pub onward : (n : ℕ) (s t : Reading) → read_by text due n s ≡ Ok t → Onward text due n s t
  unfolding read_by
  onward zero s t = λ e.
      rw (sym (same_ok _ _ e)) (record {
        counted = sym (add-zero (length s.lines));
        further = omega arith;
        earlier = λ i h. refl;
        inside = λ h. h;
        in_order_lem = λ h. h;
      })
  onward (suc n) s t = by (onward n s) (read_by text due n s) refl
    where
      by : ((u : Reading) → read_by text due n s ≡ Ok u → Onward text due n s u) → (r : Result Reading TextRefusal) → read_by text due n s ≡ r
          → further r (λ u. read_line text (due u.lines) u) ≡ Ok t → Onward text due (suc n) s t
      by more (Ok u) e h = one_more_lem n s u t (more u e) (taken text (due u.lines) u t h)
      by more (Err f) e h = absurd (not_ok _ _ h)

  -- one line more, as a loop counts them
  pub by_next : (n : ℕ) (s t : Reading) → read_by text due n s ≡ Ok t → read_by text due (n + 1) s ≡ read_line text (due t.lines) t
  unfolding read_by
  by_next n s t e = ap (λ (k : ℕ). read_by text due k s) (add-one n) ∙ ap (λ (r : Result Reading TextRefusal). further r (λ u. read_line text (due u.lines) u)) e

  -- a refused reading stays as it is
  pub by_refused : (n m k : ℕ) (s : Reading) (r : TextRefusal) → k ≡ n + m → read_by text due n s ≡ Err r → read_by text due k s ≡ Err r
  unfolding read_by
  by_refused n zero k s r q e = ap (λ (x : ℕ). read_by text due x s) (q ∙ add-zero n) ∙ e
  by_refused n (suc m) k s r q e =
      let is : k ≡ suc (n + m) = omega arith in
      ap (λ (x : ℕ). read_by text due x s) is
      ∙ ap (λ (z : Result Reading TextRefusal). further z (λ u. read_line text (due u.lines) u)) (by_refused n m (n + m) s r refl e)

  -- lines after lines
  pub by_after : (n m k : ℕ) (s t : Reading) → k ≡ n + m → read_by text due n s ≡ Ok t → read_by text due k s ≡ read_by text due m t
  unfolding read_by
  by_after n zero k s t q e = ap (λ (x : ℕ). read_by text due x s) (q ∙ add-zero n) ∙ e
  by_after n (suc m) k s t q e =
      let is : k ≡ suc (n + m) = omega arith in
      ap (λ (x : ℕ). read_by text due x s) is
      ∙ ap (λ (z : Result Reading TextRefusal). further z (λ u. read_line text (due u.lines) u)) (by_after n m (n + m) s t refl e)
