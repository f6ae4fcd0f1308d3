-- The calls stored so far and those from the next step on are all of the day's; each stands in its eight places, which no later call writes. While a call
-- comes, the stored ones took six bytes each before it, so a list with a place for every six bytes has places for all.
-- Assumes nothing.
use mathlib.Core.Path.{◌≡◌, refl, ap, sym, ◌∙◌}
use mathlib.Core.Bool.{Bool, true, false}
use mathlib.Core.List.{List, [], ◌∷◌, ◌++◌}
use Prim.Native.Nat.{ℕ, ◌+◌, ◌*◌, ◌/◌, ◌≤◌, ◌<◌}
use native.Mathlib.Omega.{arith}
use borrow.Author.Tests.{lt-ltb, ltb-true, ltb-false}
use lib.Dec.{ltb}
use lib.ListN.{length, get_or, length-append, get_or-append}
use lib.Seq.{length-paste, get_or_at, append_snoc}
use Rattle.finite.specs.Finite.{tabulate}
use Rattle.finite.proofs.Tables.{length_tabulate, get_d_tabulate}
use Rattle.day_calls.proofs.Pasted.{pasted_before, pasted_in}
use Rattle.ledger.specs.declared.Asked.{Asked}
use Rattle.ledger.specs.Requests.{call_numbers, asked_at, none_asked}
use Rattle.day_calls.specs.declared.Step.{Step}
use Rattle.std.specs.Prelude.{Ok, Some}
use Rattle.day_calls.specs.DayCalls.{Stepped, step_at, DayCalls, with_call, calls_by, day_calls, line_bytes, number_of, stored_at}
use Rattle.day_calls.proofs.Steps.{step_goes, day_calls_is}

-- a stored call read back, and the earlier ones as they were
module _ (l : List ℕ) (i : ℕ) (a : Asked) (h : i < length l / call_numbers) where
  abbrev numbers : List ℕ
  numbers = tabulate call_numbers (number_of a)

  fits : call_numbers * i + call_numbers ≤ length l
  fits = omega arith

  enough : call_numbers ≤ length numbers
  enough = omega (arith, length_tabulate call_numbers (number_of a))

  pub stored_length : length (stored_at l i a) ≡ length l
  unfolding stored_at
  stored_length = length-paste l (call_numbers * i) numbers call_numbers fits enough

  number_at : (k : ℕ) → k < call_numbers → get_or (stored_at l i a) (call_numbers * i + k) 0 ≡ number_of a k
  unfolding stored_at
  number_at k b = pasted_in 0 l (call_numbers * i) numbers call_numbers fits enough k b ∙ get_d_tabulate call_numbers (number_of a) k 0 b

  first_at_lem : get_or (stored_at l i a) (call_numbers * i) 0 ≡ a.kind
  first_at_lem = let e : call_numbers * i + 0 ≡ call_numbers * i = omega arith in ap (λ (j : ℕ). get_or (stored_at l i a) j 0) (sym e) ∙ number_at 0 (omega arith)

  pub stored_here : asked_at (stored_at l i a) i ≡ a
  unfolding asked_at
  stored_here =
      rw (lt-ltb i (length (stored_at l i a) / call_numbers) (omega (arith, stored_length)))
      (λ t.
      record {
        kind = first_at_lem t;
        hour = number_at 1 (omega arith) t;
        unit = number_at 2 (omega arith) t;
        to = number_at 3 (omega arith) t;
        kwh = number_at 4 (omega arith) t;
        begin = number_at 5 (omega arith) t;
        end = number_at 6 (omega arith) t;
        start = number_at 7 (omega arith) t;
      })

  before : (j : ℕ) → j < call_numbers * i → get_or (stored_at l i a) j 0 ≡ get_or l j 0
  unfolding stored_at
  before j b = pasted_before 0 l (call_numbers * i) numbers call_numbers fits enough j b

  pub stored_earlier : (j : ℕ) → j < i → asked_at (stored_at l i a) j ≡ asked_at l j
  unfolding asked_at
  stored_earlier j b =
      rw (lt-ltb j (length (stored_at l i a) / call_numbers) (omega (arith, stored_length)), lt-ltb j (length l / call_numbers) (omega arith))
      (λ t.
      record {
        kind = before (call_numbers * j) (omega arith) t;
        hour = before (call_numbers * j + 1) (omega arith) t;
        unit = before (call_numbers * j + 2) (omega arith) t;
        to = before (call_numbers * j + 3) (omega arith) t;
        kwh = before (call_numbers * j + 4) (omega arith) t;
        begin = before (call_numbers * j + 5) (omega arith) t;
        end = before (call_numbers * j + 6) (omega arith) t;
        start = before (call_numbers * j + 7) (omega arith) t;
      })

-- the calls in front of others
abbrev in_front : List Asked → DayCalls → DayCalls
in_front done rest = record { calls = done ++ rest.calls; ending = rest.ending }

-- n calls are stored, and the step is the next one
pub record Listing (text : List ℕ) (from : ℕ) (calls : List ℕ) (n : ℕ) (t : Stepped) : Type 0 where
  pub done : List Asked
  pub all : day_calls text from ≡ in_front done (calls_by (day_calls text) t)
  pub count : length done ≡ n
  pub stored : (i : ℕ) → i < n → asked_at calls i ≡ get_or done i none_asked
  pub few : line_bytes * n ≤ length text
  pub more : (s : Step) → t ≡ Ok (Some s) → (line_bytes * n + line_bytes ≤ s.after) × (s.after ≤ length text)

pub listing_first : (text : List ℕ) (from : ℕ) (calls : List ℕ) (t : Stepped) → t ≡ step_at text from → Listing text from calls 0 t
listing_first text from calls t e =
    record {
      done = [];
      all = day_calls_is text from ∙ ap (calls_by (day_calls text)) (sym e);
      count = refl;
      stored = λ i b. absurd (omega arith);
      few = omega arith;
      more = λ s m. let on = step_goes text from s (sym e ∙ m) in (omega (arith, on.0), on.1);
    }

module _ (text : List ℕ) (from : ℕ) (calls : List ℕ) (n : ℕ) (t : Stepped) (s : Step) (l : Listing text from calls n t) (m : t ≡ Ok (Some s))
    (room : n < length calls / call_numbers) where
  abbrev stored' : List ℕ
  stored' = stored_at calls n s.asked

  abbrev done' : List Asked
  done' = l.done ++ (s.asked ∷ [])

  asked_at_lem : (i : ℕ) → i < n + 1 → asked_at stored' i ≡ get_or done' i none_asked
  asked_at_lem i b = by (ltb i n) refl
    where
      by : (t : Bool) → ltb i n ≡ t → asked_at stored' i ≡ get_or done' i none_asked
      by true e =
          stored_earlier calls n s.asked room i (ltb-true i n e)
          ∙ (l.stored i (ltb-true i n e) ∙ sym (get_or-append l.done (s.asked ∷ []) none_asked i (omega (arith, l.count, ltb-true i n e))))
      by false e =
          let q : i ≡ n = omega (arith, ltb-false i n e) in
          ap (asked_at stored') q
          ∙ (stored_here calls n s.asked room ∙ sym (ap (λ (j : ℕ). get_or done' j none_asked) q ∙ get_or_at l.done s.asked [] none_asked n l.count))

  next_calls : calls_by (day_calls text) t ≡ with_call s.asked (day_calls text s.after)
  next_calls = ap (calls_by (day_calls text)) m

  pub listing_next : (t' : Stepped) → t' ≡ step_at text s.after → Listing text from stored' (n + 1) t'
  listing_next t' e =
      record {
        done = done';
        all =
            l.all
            ∙ (ap (in_front l.done) (next_calls ∙ ap (with_call s.asked) (day_calls_is text s.after ∙ ap (calls_by (day_calls text)) (sym e)))
            ∙ ap {B = DayCalls} (λ (cs : List Asked). record { calls = cs; ending = (calls_by (day_calls text) t').ending }) (sym (append_snoc l.done s.asked (calls_by (day_calls text) t').calls)));
        count = length-append l.done (s.asked ∷ []) ∙ ap (λ (k : ℕ). k + 1) l.count;
        stored = asked_at_lem;
        few = let k = l.more s m in omega (arith, k.0, k.1);
        more = λ s' m'. let on = step_goes text s.after s' (sym e ∙ m') in let k = l.more s m in (omega (arith, on.0, k.0), on.1);
      }
