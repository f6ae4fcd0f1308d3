-- One line at a place, by where its LF is found, and what reading any number of lines keeps: the place stays within the text, a refused
-- reading stays as it is, and each line taken in keeps to the row that was due.
-- Assumes nothing.
use mathlib.Core.Path.{◌≡◌, refl, ap, sym, ◌∙◌}
use mathlib.Core.Bool.{Bool, true, false, cond, ◌||◌}
use mathlib.Core.List.{List, [], ◌∷◌, ◌++◌}
use Prim.Native.Nat.{ℕ, suc, ◌+◌, ◌-◌, ◌≤◌, ◌<◌}
use native.Mathlib.Omega.{arith}
use borrow.Author.Tests.{le-ltb, lt-ltb, ltb-false, eqb-true, eqb-false}
use lib.Dec.{eqb, ltb}
use lib.ListN.{length, drop, take, set, length-drop, length-append, length-set, get_or-append}
use lib.Seq.{get_or_at, get_or-set_same, get_or-set_other}
use Rattle.std.specs.Prelude.{Result, Ok, Err}
use Rattle.finite.proofs.Sums.{extend}
use Rattle.values.proofs.Fits.{Fits, value_fits}
use Rattle.lines.specs.Refusals.{text_number, text_refusal, bad_start, no_start}
use Rattle.lines.specs.declared.TextRefusal.{TextRefusal}
use Rattle.text.specs.Text.{fault_number, seek, before, has, value_part, key_is}
use Rattle.text.specs.Rows.{no_line}
use Rattle.values.specs.Values.{value_of}
use Rattle.text.specs.declared.Row.{Row}
use Rattle.text.specs.declared.Line.{Line}
use Rattle.text.specs.declared.TextFault.{TextFault}
use Rattle.text.specs.declared.TextFault.TheVariants.{NotDue, BadValue, OfferOrder, TextEnds}
use Rattle.lines.specs.Lines.{line_by, line_at, line_of}
use Rattle.lines.specs.Cells.{line_in, Kept}

-- a refusal is no line, and a line is the one that it is
pub not_ok : {A E : Type 0} (f : E) (x : A) → ◌≡◌ {A = Result A E} (Err f) (Ok x) → ⊥
not_ok f x e = cc

pub same_ok : {A E : Type 0} (x y : A) → ◌≡◌ {A = Result A E} (Ok x) (Ok y) → x ≡ y
same_ok x y e = cc

pub same_err : {A E : Type 0} (x y : E) → ◌≡◌ {A = Result A E} (Err x) (Err y) → x ≡ y
same_err x y e = cc

-- the line at a place, whose LF is looked for from there and found at e
module _ (text : List ℕ) (at : ℕ) (row : Row) (e : ℕ) (he : e ≡ at + seek 10 10 (drop at text)) where
  pub unended : length text ≤ e → Err TextEnds ≡ line_at text at row
  unfolding line_at
  unended h =
      let n : length (drop at text) ≤ seek 10 10 (drop at text) = omega (arith, length-drop at text) in
      simp (le-ltb _ _ n)

  -- it is cut out of the text there, and goes by whether its key is the one due
  pub by_key : e < length text → (due : Bool) → key_is (take (e - at) (drop at text)) row.key ≡ due
      → cond due (value_of row (value_part (take (e - at) (drop at text)))) (Err NotDue) ≡ line_at text at row
  unfolding line_at
  by_key h due k =
      let short : seek 10 10 (drop at text) < length (drop at text) = omega (arith, length-drop at text) in
      let n : e - at ≡ seek 10 10 (drop at text) = omega arith in
      sym (ap (λ (b : Bool). cond b (value_of row (value_part (take (e - at) (drop at text)))) (Err NotDue)) k)
      ∙ simp (lt-ltb _ _ short) (ap (λ (k : ℕ). line_by (take k (drop at text)) row) n)

-- a line that is read is kept where there is room for it
module _ (kept : List Line) (lines : List Line) (l : Line) (holds : Kept kept lines) where
  pub kept_on : length kept ≤ length lines → Kept kept (lines ++ (l ∷ []))
  kept_on full k h room = get_or-append lines (l ∷ []) no_line k (omega arith) ∙ holds k (omega arith) room

  pub kept_next : length lines < length kept → Kept (set kept (length lines) l) (lines ++ (l ∷ []))
  kept_next free k h room = each k (omega (arith, length-append lines (l ∷ []))) (omega (arith, length-set kept (length lines) l))
    where
      none : Line
      none = record { count = 0; number = [] }

      each : (k : ℕ) → k < suc (length lines) → k < length kept → line_of (lines ++ (l ∷ [])) k ≡ line_in (set kept (length lines) l) k
      each =
          extend (λ k. k < length kept → line_of (lines ++ (l ∷ [])) k ≡ line_in (set kept (length lines) l) k) (length lines)
          (λ k h room. get_or-append lines (l ∷ []) no_line k h ∙ (holds k h room ∙ sym (get_or-set_other kept (length lines) k l none (λ e. omega arith))))
          (λ room. get_or_at lines l [] no_line (length lines) refl ∙ sym (get_or-set_same kept (length lines) l none free))

-- a text and a start that are not refused
pub start_within : (text : List ℕ) (start : ℕ) → bad_start text start ≡ false → (length text ≤ 65536) × (start ≤ length text)
start_within text start = by (ltb 65536 (length text)) refl (ltb (length text) start) refl
  where
    by : (a : Bool) → ltb 65536 (length text) ≡ a → (b : Bool) → ltb (length text) start ≡ b → (a || b) ≡ false → (length text ≤ 65536) × (start ≤ length text)
    by true e b f h = absurd (let z : ◌≡◌ {A = ℕ} 0 1 = cc in omega arith)
    by false e b f h = (ltb-false _ _ e, ltb-false _ _ (f ∙ h))

-- where a reading starts, or not
pub started : (t : Bool) (start at : ℕ) → cond t (Err no_start) (Ok start) ≡ Ok at → (t ≡ false) × (at ≡ start)
started true start at e = absurd (not_ok _ _ e)
started false start at e = (refl, sym (same_ok _ _ e))

pub not_started : (t : Bool) (start : ℕ) (r : TextRefusal) → cond t (Err no_start) (Ok start) ≡ Err r → (t ≡ true) × (r ≡ no_start)
not_started true start r e = (refl, cc)
not_started false start r e = absurd (not_ok _ _ (sym e))

-- the line keeps to its row, where the row has numbers
pub Keeps : Row → Line → Type 0
Keeps row l = (row.parts ≡ 0 → ⊥) → row.most ≤ 24 → Fits row l

pub keeps_open : (row : Row) (l : Line) → Keeps row l → (row.parts ≡ 0 → ⊥) → row.most ≤ 24 → Fits row l
unfolding Keeps
keeps_open row l k = k

pub line_keeps : (text : List ℕ) (at : ℕ) (row : Row) (l : Line) → line_at text at row ≡ Ok l → Keeps row l
unfolding line_at Keeps
line_keeps text at row l = by (has 10 (drop at text)) (key_is (before 10 (drop at text)) row.key)
  where
    v : Result Line TextFault
    v = value_of row (value_part (before 10 (drop at text)))

    by : (t u : Bool) → cond t (cond u v (Err NotDue)) (Err TextEnds) ≡ Ok l → (row.parts ≡ 0 → ⊥) → row.most ≤ 24 → Fits row l
    by true true e p m = value_fits row (value_part (before 10 (drop at text))) p m l e
    by true false e p m = absurd (not_ok _ _ e)
    by false u e p m = absurd (not_ok _ _ e)

-- a refusal's number is that of its case
pub refusal_number_lem : (number line : ℕ) → 1 ≤ number → number ≤ 4 → text_number (text_refusal number line) ≡ number
refusal_number_lem number line a b = by (eqb number 1) refl (eqb number 2) refl (eqb number 3) refl
  where
    by : (t : Bool) → eqb number 1 ≡ t → (u : Bool) → eqb number 2 ≡ u → (v : Bool) → eqb number 3 ≡ v
        → fault_number (cond t NotDue (cond u BadValue (cond v OfferOrder TextEnds))) ≡ number
    by true e u f v g = sym (eqb-true _ _ e)
    by false e true f v g = sym (eqb-true _ _ f)
    by false e false f true g = sym (eqb-true _ _ g)
    by false e false f false g =
        let p : number ≡ 1 → ⊥ = eqb-false _ _ e in
        let q : number ≡ 2 → ⊥ = eqb-false _ _ f in
        let r : number ≡ 3 → ⊥ = eqb-false _ _ g in
        omega arith

-- 01, table of refusals, 1 to 4: the number of a text's refusal
pub refusal_number_in : (r : TextRefusal) → (1 ≤ text_number r) × (text_number r ≤ 4)
refusal_number_in r = by r.fault
  where
    by : (f : TextFault) → (1 ≤ fault_number f) × (fault_number f ≤ 4)
    by NotDue = (omega arith, omega arith)
    by BadValue = (omega arith, omega arith)
    by OfferOrder = (omega arith, omega arith)
    by TextEnds = (omega arith, omega arith)
