-- One line more, and bytes by another name.
-- Assumes nothing.
use mathlib.Core.Path.{◌≡◌, ap, sym, ◌∙◌}
use mathlib.Core.List.{List}
use Prim.Native.Nat.{ℕ, ◌+◌}
use native.Mathlib.Numerals.{add-one}
use Rattle.sheet.specs.declared.Sheet.{Sheet}
use Rattle.decimal.specs.declared.Writer.{Writer}
use Rattle.decimal.specs.Output.{written}
use Rattle.decimal.specs.Writer.{Wrote, held}
use Rattle.ledger.specs.Ledger.{Call}
use Rattle.engine.specs.declared.Done.{Done}
use Rattle.engine.specs.Journal.{Performed, performed}
use Rattle.journal.specs.declared.Accounts.{Accounts}
use Rattle.journal.specs.Accounts.{Performs}
use Rattle.journal.proofs.Turning.{same_next}
use Rattle.daybook.specs.declared.Replay.{Replay}
use Rattle.daybook.specs.Replay.{Course, course, Goes, left_at, stepped, steps}

-- the same bytes by another name
pub same_bytes : (a b : Writer) {xs ys : List ℕ} → Wrote a b xs → xs ≡ ys → Wrote a b ys
same_bytes a b w e = record { same_buffer = w.same_buffer; bytes_after = w.bytes_after ∙ ap (written (held a)) e }

pub next_steps : (r : Replay) (k : ℕ) (y : Replay) → Goes r y (stepped r.accounts.sheet.now r.text.now (steps r.accounts.sheet.now r.text.now (course r) k))
    → Goes r y (steps r.accounts.sheet.now r.text.now (course r) (k + 1))
unfolding steps
next_steps r k y s =
    record { course_is = s.course_is ∙ ap (steps r.accounts.sheet.now r.text.now (course r)) (sym (add-one k)); same = s.same; text_is = s.text_is }

-- what a run prints of its course
pub same_line : (r x : Replay) (f : Sheet → List ℕ → Course → List ℕ) (c : Course) → Goes r x c
    → f x.accounts.sheet.now x.text.now (course x) ≡ f r.accounts.sheet.now r.text.now c
same_line r x f c s = λ i. f (s.same.sheet i).now (s.text_is i).now (s.course_is i)

-- a call on the accounts of a run leaves what it leaves of the course, and answers it
module _ (a a' : Accounts) (r : Done) (c : Call) (p : Performs a c a' r) where
  pub call_left : (next : ℕ) → ◌≡◌ {A = Course} (record { list = a'.list.now; count = a'.count; book = a'.book; at = next })
      (left_at next (performed a.list.now a.count a.sheet.now a.book c))
  call_left next = (λ i. record { list = a'.list.now; count = p.counted i; book = a'.book; at = next }) ∙ ap (left_at next) p.done

  pub call_answer : r.answer ≡ (performed a.list.now a.count a.sheet.now a.book c).outcome.answer
  call_answer = ap (λ (q : Performed). q.outcome.answer) p.done

-- one line more of a run
pub goes_on : (r x y : Replay) (f : Sheet → List ℕ → Course → Course) (c : Course) → Goes r x c → Goes x y (f x.accounts.sheet.now x.text.now (course x))
    → Goes r y (f r.accounts.sheet.now r.text.now c)
goes_on r x y f c s t =
    record {
      course_is = t.course_is ∙ (λ i. f (s.same.sheet i).now (s.text_is i).now (s.course_is i));
      same = same_next r.accounts x.accounts y.accounts s.same t.same;
      text_is = t.text_is ∙ s.text_is;
    }
