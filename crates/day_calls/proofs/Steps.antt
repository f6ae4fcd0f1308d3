-- Each call of a day's text takes a line of six bytes at least, so the count of bytes in `day_calls` never runs out while a call comes, and the list is what
-- its sentence says: call after call up to the text's end or the first line that is no call.
-- Assumes nothing.
use mathlib.Core.Path.{◌≡◌, refl, ap, sym}
use mathlib.Core.Bool.{Bool, true, false, cond, true≢false}
use mathlib.Core.List.{List, [], ◌∷◌}
use Prim.Native.Nat.{ℕ, zero, suc, ◌+◌, ◌≤◌, ◌<◌}
use native.Mathlib.Omega.{arith}
use borrow.Author.Tests.{ltb-true, le-ltb}
use lib.Dec.{eqb, ltb}
use lib.ListN.{length, drop, length-drop}
use lib.Seq.{length-take-le}
use Rattle.text.specs.Text.{seek, before, has, value_part, word_is, key_is}
use Rattle.text.specs.Rows.{word}
use Rattle.values.specs.Values.{value_of}
use Rattle.std.specs.Prelude.{Result, Ok, Err, Some, None}
use Rattle.text.specs.declared.Line.{Line}
use Rattle.text.specs.declared.TextFault.{TextFault}
use Rattle.text.specs.declared.TextFault.TheVariants.{NotDue, TextEnds}
use Rattle.lines.specs.Lines.{place_after}
use Rattle.record_end.specs.End.{behind_record}
use Rattle.record_end.proofs.Behind.{behind_line, behind_le}
use Rattle.day_calls.specs.declared.Next.TheVariants.{Settle}
use Rattle.day_calls.specs.declared.Step.{Step}
use Rattle.day_calls.specs.DayCalls.{take_row, settle_asked, take_of, next_at, Coming, Stepped, step_by, step_at, DayCalls, no_calls, with_call, calls_by, calls_from, day_calls, line_bytes}

-- a word has as many bytes as stand before its '='
word_length : (s w : List ℕ) → word_is s w ≡ true → length s ≡ seek 61 61 w
unfolding word_is seek
word_length [] [] h = refl
word_length (x ∷ xs) [] h = absurd (true≢false (sym h))
word_length [] (y ∷ ys) h = simp h
word_length (x ∷ xs) (y ∷ ys) h = by (eqb y 61) (eqb x y) h (word_length xs ys)
  where
    by : (t u : Bool) → cond t false (cond u (word_is xs ys) false) ≡ true → (word_is xs ys ≡ true → length xs ≡ seek 61 61 ys) → suc (length xs) ≡ cond t 0 (cond t 0 (suc (seek 61 61 ys)))
    by true u k f = absurd (true≢false (sym k))
    by false true k f = ap suc (f k)
    by false false k f = absurd (true≢false (sym k))

-- a line with a key has the key's bytes and the '='
key_length : (line key : List ℕ) → key_is line key ≡ true → seek 61 61 key < length line
key_length line key = by (has 61 line) refl
  where
    by : (t : Bool) → has 61 line ≡ t → cond t (word_is (before 61 line) key) false ≡ true → seek 61 61 key < length line
    by true e k =
        let l : seek 61 61 line < length line = ltb-true _ _ e in
        omega (arith, word_length (before 61 line) key k, length-take-le (seek 61 61 line) line (omega arith))
    by false e k = absurd (true≢false (sym k))

take_four : seek 61 61 (word "take") ≡ 4
unfolding seek
take_four = refl

hour_four : seek 61 61 (word "hour") ≡ 4
unfolding seek
hour_four = refl

-- the bytes of such a line, with its LF
module _ (text : List ℕ) (at : ℕ) (lf : has 10 (drop at text) ≡ true) where
  ended : seek 10 10 (drop at text) < length (drop at text)
  ended = ltb-true _ _ lf

  line_inside : place_after text at ≤ length text
  line_inside = let l = ended in omega (arith, l, length-drop at text)

  line_size : (key : List ℕ) → seek 61 61 key ≡ 4 → key_is (before 10 (drop at text)) key ≡ true → at + line_bytes ≤ place_after text at
  line_size key four k =
      let l = ended in
      omega (arith, l, four, key_length (before 10 (drop at text)) key k, length-take-le (seek 10 10 (drop at text)) (drop at text) (omega arith))

  record_size : place_after text at ≤ behind_record text at
  record_size = omega (arith, behind_line (drop at text) ended)

  record_inside : at < length text → behind_record text at ≤ length text
  record_inside h = omega (arith, behind_le true (drop at text), length-drop at text)

-- a step that is a call goes on by six bytes at least, inside the text
abbrev Goes : List ℕ → (at : ℕ) → Stepped → Type 0
Goes text at t = (s : Step) → t ≡ Ok (Some s) → (at + line_bytes ≤ s.after) × (s.after ≤ length text)

none_goes : (text : List ℕ) (at : ℕ) → Goes text at (Ok None)
none_goes text at s m = absurd (let z : ◌≡◌ {A = ℕ} 0 1 = cc in omega arith)

fault_goes : (text : List ℕ) (at : ℕ) (f : TextFault) → Goes text at (Err f)
fault_goes text at f s m = absurd (let z : ◌≡◌ {A = ℕ} 0 1 = cc in omega arith)

call_goes : (text : List ℕ) (at : ℕ) (s : Step) → at + line_bytes ≤ s.after → s.after ≤ length text → Goes text at (Ok (Some s))
call_goes text at s on within s' m = let e : s ≡ s' = cc in rw (← e) (on, within)

take_goes : (text : List ℕ) (at after : ℕ) (r : Result Line TextFault) → at + line_bytes ≤ after → after ≤ length text
    → Goes text at (step_by text at (take_of r after))
take_goes text at after (Ok l) on within = call_goes text at _ on within
take_goes text at after (Err f) on within = fault_goes text at f

pub step_goes : (text : List ℕ) (at : ℕ) → Goes text at (step_at text at)
unfolding next_at
step_goes text at = by (ltb at (length text)) refl (has 10 (drop at text)) refl (key_is line (word "take")) refl (key_is line (word "hour")) refl
  where
    line : List ℕ
    line = before 10 (drop at text)

    read : Result Line TextFault
    read = value_of take_row (value_part line)

    by : (t : Bool) → ltb at (length text) ≡ t → (lf : Bool) → has 10 (drop at text) ≡ lf → (taken : Bool) → key_is line (word "take") ≡ taken
        → (hour : Bool) → key_is line (word "hour") ≡ hour
        → let coming : Coming = cond t (cond lf (cond taken (take_of read (place_after text at)) (cond hour (Ok (Some (Settle (settle_asked text at)))) (Err NotDue))) (Err TextEnds)) (Ok None) in
        Goes text at (step_by text at coming)
    by false e lf f taken g hour h = none_goes text at
    by true e false f taken g hour h = fault_goes text at TextEnds
    by true e true f true g hour h =
        take_goes text at (place_after text at) read (line_size text at f (word "take") take_four g) (line_inside text at f)
    by true e true f false g true h =
        let size = line_size text at f (word "hour") hour_four h in
        let behind = record_size text at f in
        call_goes text at _ (omega arith) (record_inside text at f (ltb-true _ _ e))
    by true e true f false g false h = fault_goes text at NotDue

past_end : (text : List ℕ) (at : ℕ) → length text ≤ at → ◌≡◌ {A = Stepped} (step_at text at) (Ok None)
unfolding next_at
past_end text at h = simp (le-ltb _ _ h)

-- past the text's end there are no calls
none_past : (text : List ℕ) (at : ℕ) (further : ℕ → DayCalls) → length text ≤ at → calls_by further (step_at text at) ≡ no_calls (Ok tt)
none_past text at further h = ap (calls_by further) (past_end text at h)

-- two counts that both last give the same calls
by_step : (further other : ℕ → DayCalls) (t : Stepped) → ((s : Step) → t ≡ Ok (Some s) → further s.after ≡ other s.after) → calls_by further t ≡ calls_by other t
by_step further other (Ok (Some s)) same = ap (with_call s.asked) (same s refl)
by_step further other (Ok None) same = refl
by_step further other (Err f) same = refl

enough : (n m : ℕ) (text : List ℕ) (at : ℕ) → length text < at + n → length text < at + m → calls_from text n at ≡ calls_from text m at
unfolding calls_from
enough zero zero text at p q = refl
enough zero (suc m) text at p q = sym (none_past text at (calls_from text m) (omega arith))
enough (suc n) zero text at p q = none_past text at (calls_from text n) (omega arith)
enough (suc n) (suc m) text at p q =
    by_step (calls_from text n) (calls_from text m) (step_at text at)
    (λ s more. let on = (step_goes text at s more).0 in enough n m text s.after (omega arith) (omega arith))

-- the list without a count: the call at the place, and those behind it
pub day_calls_is : (text : List ℕ) (at : ℕ) → day_calls text at ≡ calls_by (day_calls text) (step_at text at)
unfolding calls_from
day_calls_is text at =
    by_step (calls_from text (length text)) (day_calls text) (step_at text at)
    (λ s more. let on = (step_goes text at s more).0 in enough (length text) (suc (length text)) text s.after (omega arith) (omega arith))
