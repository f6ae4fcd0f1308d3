-- A record that was read ends where its first line that is exactly `end=hour` does: each line before its last has another key, so none of them is such
-- a line. So after an accepted settle or restate the next line of a text of calls begins at the place that the call answers.
-- Assumes nothing.
use mathlib.Core.Path.{◌≡◌, refl, ap, sym, ◌∙◌, subst}
use mathlib.Core.Bool.{Bool, true, false, cond, true≢false}
use mathlib.Core.List.{List, [], ◌∷◌}
use Prim.Native.Nat.{ℕ, zero, suc, ◌+◌, ◌*◌, ◌-◌, ◌%◌, ◌≤◌, ◌<◌}
use native.Mathlib.Omega.{arith}
use borrow.Author.Tests.{lt-ltb, le-ltb, ltb-true, eqb-true, eqb-false, ne_eqb}
use lib.Dec.{eqb, ltb}
use lib.ListN.{length, drop, get_or, length-drop}
use Rattle.finite.specs.Finite.{every}
use Rattle.finite.proofs.Tests.{every_at}
use Rattle.energy.specs.declared.GrossKwh.{GrossKwh}
use Rattle.text.specs.Text.{seek, before, has, value_part, word_is, key_is}
use Rattle.text.specs.Rows.{word, no_line}
use Rattle.values.specs.Values.{value_of}
use Rattle.text.specs.declared.Row.{Row}
use Rattle.lines.specs.Lines.{Reading, begin, line_at, place_after, read_line, further, read_by}
use Rattle.std.specs.Prelude.{Result, Ok, Err}
use Rattle.text.specs.declared.Line.{Line}
use Rattle.text.specs.declared.TextFault.{TextFault}
use Rattle.text.specs.declared.TextFault.TheVariants.{NotDue, BadValue, TextEnds}
use Rattle.lines.specs.declared.TextRefusal.{TextRefusal}
use Rattle.lines.proofs.Reading.{not_ok, same_ok}
use Rattle.lines.proofs.Due.{onward, by_next, by_refused}
use Rattle.lines.proofs.Due as step
use Rattle.record_lines.specs.Rows.{head_rows, spans_row, unit_rows, end_row, head_lines, unit_lines, row_at, due_row, read_lines}
use Rattle.record_text.specs.Hour.{read_record}
use Rattle.record_text.proofs.Laws.{ended}
use Rattle.units.specs.Units.{unit_count}
use Rattle.record_end.specs.End.{is_end, behind, behind_record}
use Rattle.record_end.proofs.Behind.{whole, at_end, goes_on}

-- whether two words differ before either ends
unfoldable apart : List ℕ → List ℕ → Bool
apart [] w = false
apart (y ∷ ys) [] = false
apart (y ∷ ys) (z ∷ zs) = cond (eqb y z) (cond (eqb y 61) false (apart ys zs)) true

-- no bytes are both
one_word : (s w v : List ℕ) → apart w v ≡ true → word_is s w ≡ true → word_is s v ≡ false
unfolding apart word_is
one_word s [] v a h = absurd (true≢false (sym a))
one_word s (y ∷ ys) [] a h = absurd (true≢false (sym a))
one_word [] (y ∷ ys) (z ∷ zs) a h = by (eqb y z) refl a
  where
    by : (t : Bool) → eqb y z ≡ t → cond t (cond (eqb y 61) false (apart ys zs)) true ≡ true → eqb z 61 ≡ false
    by true e b = absurd (true≢false (sym (simp h at b)))
    by false e b = ne_eqb z 61 (λ q. eqb-false y z e (eqb-true y 61 h ∙ sym q))
one_word (x ∷ xs) (y ∷ ys) (z ∷ zs) a h = by (eqb y 61) refl (eqb x y) refl (eqb y z) refl (eqb z 61) (eqb x z) refl h a (one_word xs ys zs)
  where
    by : (p : Bool) → eqb y 61 ≡ p → (q : Bool) → eqb x y ≡ q → (t : Bool) → eqb y z ≡ t → (u r : Bool) → eqb x z ≡ r
        → cond p false (cond q (word_is xs ys) false) ≡ true → cond t (cond p false (apart ys zs)) true ≡ true
        → (apart ys zs ≡ true → word_is xs ys ≡ true → word_is xs zs ≡ false) → cond u false (cond r (word_is xs zs) false) ≡ false
    by p ep q eq t et true r er k b f = refl
    by p ep q eq t et false false er k b f = refl
    by true ep q eq t et false true er k b f = absurd (true≢false (sym k))
    by false ep false eq t et false true er k b f = absurd (true≢false (sym k))
    by false ep true eq true et false true er k b f = f b k
    by false ep true eq false et false true er k b f = absurd (eqb-false y z et (sym (eqb-true x y eq) ∙ eqb-true x z er))

-- the keys of a record's lines but the last
heads_apart : every head_lines (λ i. apart (get_or head_rows i end_row).key (word "end")) ≡ true
unfolding every apart head_rows end_row
heads_apart = refl

units_apart : every unit_lines (λ i. apart (get_or unit_rows i end_row).key (word "end")) ≡ true
unfolding every apart unit_rows spans_row end_row
units_apart = refl

row_apart : (n k : ℕ) → k < head_lines + unit_lines * n → apart (row_at n k).key (word "end") ≡ true
unfolding row_at
row_apart n k l = by (ltb k head_lines) refl
  where
    by : (t : Bool) → ltb k head_lines ≡ t
        → apart (cond t (get_or head_rows k end_row) (cond (ltb k (head_lines + unit_lines * n)) (get_or unit_rows ((k - head_lines) % unit_lines) end_row) end_row)).key
        (word "end")
        ≡ true
    by true e = every_at head_lines (λ i. apart (get_or head_rows i end_row).key (word "end")) heads_apart k (ltb-true k head_lines e)
    by false e =
        rw (lt-ltb k (head_lines + unit_lines * n) l)
        (every_at unit_lines (λ i. apart (get_or unit_rows i end_row).key (word "end")) units_apart ((k - head_lines) % unit_lines) (omega arith))

-- a line that was taken in: it is ended, it has the key due, and its value is good
record Taken (text : List ℕ) (row : Row) (s t : Reading) : Type 0 where
  lf : seek 10 10 (drop s.at text) < length (drop s.at text)
  key_is_lem : key_is (before 10 (drop s.at text)) row.key ≡ true
  line : Line
  value_good : value_of row (value_part (before 10 (drop s.at text))) ≡ Ok line
  next : t.at ≡ place_after text s.at

taken : (text : List ℕ) (row : Row) (s t : Reading) → read_line text row s ≡ Ok t → Taken text row s t
unfolding line_at
taken text row s t good = by (has 10 (drop s.at text)) refl (key_is (before 10 (drop s.at text)) row.key) refl k.read
  where
    k : step.Taken text row s t
    k = step.taken text row s t good

    by : (h : Bool) → has 10 (drop s.at text) ≡ h → (u : Bool) → key_is (before 10 (drop s.at text)) row.key ≡ u
        → cond h (cond u (value_of row (value_part (before 10 (drop s.at text)))) (Err NotDue)) (Err TextEnds) ≡ Ok k.line → Taken text row s t
    by true e true f v = record { lf = ltb-true _ _ e; key_is_lem = f; line = k.line; value_good = v; next = ap (λ (x : Reading). x.at) k.is }
    by true e false f v = absurd (not_ok _ _ v)
    by false e u f v = absurd (not_ok _ _ v)

-- a line of another key is not the end line, and the end line is
other_line : (line key : List ℕ) → apart key (word "end") ≡ true → key_is line key ≡ true → is_end line ≡ false
other_line line key a = by (has 61 line) refl
  where
    by : (t : Bool) → has 61 line ≡ t → cond t (word_is (before 61 line) key) false ≡ true → is_end line ≡ false
    by true e k = simp (e, one_word (before 61 line) key (word "end") a k)
    by false e k = absurd (true≢false (sym k))

end_line : (line : List ℕ) (l : Line) → key_is line end_row.key ≡ true → value_of end_row (value_part line) ≡ Ok l → is_end line ≡ true
unfolding end_row value_of
end_line line l k c = rw k (by (word_is (value_part line) (word "hour")) refl c)
  where
    by : (t : Bool) → word_is (value_part line) (word "hour") ≡ t → ◌≡◌ {A = Result Line TextFault} (cond t (Ok no_line) (Err BadValue)) (Ok l)
        → word_is (value_part line) (word "hour") ≡ true
    by true e z = e
    by false e z = absurd (not_ok _ _ z)

last_row : (n : ℕ) → row_at n (head_lines + unit_lines * n) ≡ end_row
unfolding row_at
last_row n =
    simp (le-ltb (head_lines + unit_lines * n) head_lines (omega arith), le-ltb (head_lines + unit_lines * n) (head_lines + unit_lines * n) (omega arith))

module _ (text : List ℕ) (n : ℕ) where
  counted : (k : ℕ) (s : Reading) → read_by text (due_row n) k begin ≡ Ok s → length s.lines ≡ k
  counted k s e = let c = (onward text (due_row n) k begin s e).counted in omega (arith, c)

  -- where the line at a reading's place ends, and that it is one of the text's
  abbrev lf : Reading → ℕ
  lf s = s.at + seek 10 10 (drop s.at text)

  abbrev row : Reading → Row
  row s = due_row n s.lines

  in_text : (s t : Reading) → Taken text (row s) s t → lf s < length text
  in_text s t k = let l = k.lf in omega (arith, l, length-drop s.at text)

  -- a line before the last is passed
  passed : (k : ℕ) → k < head_lines + unit_lines * n → (u s : Reading) → read_by text (due_row n) k begin ≡ Ok u → read_line text (row u) u ≡ Ok s
      → behind true text ≡ u.at + behind true (drop u.at text) → behind true text ≡ s.at + behind true (drop s.at text)
  passed k l u s e h before_it =
      let t = taken text (row u) u s h in
      let key = subst (λ (j : ℕ). apart (row_at n j).key (word "end") ≡ true) (sym (counted k u e)) (row_apart n k l) in
      let other = other_line (before 10 (drop u.at text)) (row u).key key t.key_is_lem in
      let on = goes_on text u.at (lf u) refl (in_text u s t) (ap is_end (whole text u.at (lf u) refl (in_text u s t)) ∙ other) in
      rw t.next (before_it ∙ on)

  so_far : (k : ℕ) → k ≤ head_lines + unit_lines * n → (s : Reading) → read_by text (due_row n) k begin ≡ Ok s
      → behind true text ≡ s.at + behind true (drop s.at text)
  unfolding read_by
  so_far zero l s = λ e. rw (sym (same_ok _ _ e)) (omega arith)
  so_far (suc k) l s = by (so_far k (omega arith)) (read_by text (due_row n) k begin) refl
    where
      by : ((u : Reading) → read_by text (due_row n) k begin ≡ Ok u → behind true text ≡ u.at + behind true (drop u.at text))
          → (r : Result Reading TextRefusal) → read_by text (due_row n) k begin ≡ r → further r (λ u. read_line text (row u) u) ≡ Ok s
          → behind true text ≡ s.at + behind true (drop s.at text)
      by more (Ok u) e h = passed k (omega arith) u s e h (more u e)
      by more (Err f) e h = absurd (not_ok _ _ h)

  -- and the last is the end line
  ends_after : (u s : Reading) → read_by text (due_row n) (head_lines + unit_lines * n) begin ≡ Ok u → read_line text (row u) u ≡ Ok s → behind true text ≡ s.at
  ends_after u s e h =
      let m : ℕ = head_lines + unit_lines * n in
      let t = taken text (row u) u s h in
      let r : row u ≡ end_row = ap (row_at n) (counted m u e) ∙ last_row n in
      let line : List ℕ = before 10 (drop u.at text) in
      let is = end_line line t.line (subst (λ (x : Row). key_is line x.key ≡ true) r t.key_is_lem) (subst (λ (x : Row). value_of x (value_part line) ≡ Ok t.line) r t.value_good) in
      so_far m (omega arith) u e
      ∙ (at_end text u.at (lf u) refl (in_text u s t) (ap is_end (whole text u.at (lf u) refl (in_text u s t)) ∙ is)
      ∙ sym t.next)

  read_ends : (s : Reading) → read_lines text n ≡ Ok s → behind true text ≡ s.at
  unfolding read_lines
  read_ends s good = by (read_by text (due_row n) (head_lines + unit_lines * n) begin) refl
    where
      by : (r : Result Reading TextRefusal) → read_by text (due_row n) (head_lines + unit_lines * n) begin ≡ r → behind true text ≡ s.at
      by (Ok u) e = ends_after u s e (sym (by_next text (due_row n) (head_lines + unit_lines * n) begin u e) ∙ good)
      by (Err f) e = absurd (not_ok _ _ (sym (by_refused text (due_row n) (head_lines + unit_lines * n) 1 (head_lines + unit_lines * n + 1) begin f refl e) ∙ good))

-- "a line that is exactly `end=hour`": the first from the record's first byte on is the record's last
pub record_ends : (text : List ℕ) (start units : ℕ) (monthly : List GrossKwh) (place : ℕ) → (read_record text start units monthly).answer ≡ Ok place
    → behind_record text start ≡ place
record_ends text start units monthly place read =
    let e = ended text start units monthly place read in
    let b = read_ends (drop start text) (unit_count units) e.reading e.good in
    omega (arith, b, e.place_is)
