-- A list of calls under way: a call on what the calls so far left, with its answer stored, is one turn more; and it is still known whether 9 or 12 refuses the next one.
-- Assumes nothing.
use Rattle.std.specs.Prelude.{Ok}
use mathlib.Core.Path.{◌≡◌, sym, ap, ◌∙◌, subst}
use mathlib.Core.Bool.{true}
use mathlib.Core.List.{List}
use Prim.Native.Nat.{ℕ, zero, suc, ◌+◌}
use native.Mathlib.Numerals.{add-one}
use Rattle.sheet.specs.declared.Sheet.{Sheet}
use Rattle.sheet.specs.Ranges.{sheet_holds}
use Rattle.state.specs.Book.{Sized}
use Rattle.state.specs.Ranges.{book_holds}
use Rattle.postings.specs.declared.Posting.{Posting}
use Rattle.ledger.specs.Answers.{Verdict}
use Rattle.ledger.specs.Ledger.{Call}
use Rattle.ledger.specs.Requests.{call_at}
use Rattle.engine.specs.declared.Done.{Done}
use Rattle.engine.specs.Journal.{Performed, performed}
use Rattle.journal.specs.declared.Accounts.{Accounts}
use Rattle.journal.specs.Accounts.{state_in, passes, Known, Same, Performs}
use Rattle.journal.specs.Run.{stored_answer, answered, Running, running, state_of, turned, ran_all}
use Rattle.journal.proofs.Passing.{none_refuses, ready, Onward, onward}

-- what a call leaves on the way
abbrev turned_by : List ℕ → ℕ → Performed → Running
turned_by l i p = record { list = p.list; answers = answered l i p.outcome; book = p.outcome.book; count = p.outcome.count }

-- the accounts b after some calls, and b' after one more
module _ (b b' : Accounts) (v : Verdict) (r : Done) (c : Call) (known : Known b v) (p : Performs b c b' r) where
  pub known_next : Known b' v
  known_next =
      let o = subst (Onward b.sheet.now b.book b.count b.list.now v) (sym p.done) (onward b.sheet.now b.book b.count b.list.now known.sized v known.known c) in
      record {
        sized = o.sized;
        known = (λ i. passes (p.same.sheet i).now (record { book = b'.book; count = p.counted i; journal = b'.list.now })) ∙ o.known;
      }

  left_turned : (l l' : List ℕ) (i : ℕ) → l' ≡ stored_answer l i r.answer r.place → running b' l' ≡ turned_by l i (performed b.list.now b.count b.sheet.now b.book c)
  unfolding answered
  left_turned l l' i e =
      (λ j. record { list = b'.list.now; answers = e j; book = b'.book; count = p.counted j }) ∙ ap (turned_by l i) p.done

module _ (calls text : List ℕ) (a : Accounts) (answers : List ℕ) where
  abbrev ran_to : ℕ → Running
  ran_to k = ran_all a.sheet.now calls text (running a answers) k

  pub ran_next : (b b' : Accounts) (v : Verdict) (r : Done) (l l' : List ℕ) (i : ℕ) → running b l ≡ ran_to i → Same a b → Known b v
      → Performs b (call_at calls text i) b' r → l' ≡ stored_answer l i r.answer r.place → running b' l' ≡ ran_to (i + 1)
  unfolding ran_all turned
  ran_next b b' v r l l' i e same known p is =
      left_turned b b' v r (call_at calls text i) known p l l' i is
      ∙ (ap (λ (s : Sheet). turned s calls text (running b l) i) (ap (λ x. x.now) same.sheet)
      ∙ (ap (λ (x : Running). turned a.sheet.now calls text x i) e
      ∙ ap ran_to (sym (add-one i))))

pub same_next : (a b b' : Accounts) → Same a b → Same b b' → Same a b'
same_next a b b' s t = record { sheet = t.sheet ∙ s.sheet; list = t.list ∙ s.list }

-- accounts of which it is known that neither 9 nor 12 refuses the next call
pub sheet_holds_lem : (a : Accounts) → Known a (Ok tt) → sheet_holds a.sheet.now ≡ true
sheet_holds_lem a k = (none_refuses a.sheet.now (state_in a) k.known).0

-- a list of calls from any such start: the same is known after each call, and the book stays in its ranges
module _ (sheet : Sheet) (calls text : List ℕ) (start : Running) (known : passes sheet (state_of start) ≡ Ok tt) (sized : Sized start.book) where
  abbrev so_far : ℕ → Running
  so_far k = ran_all sheet calls text start k

  abbrev list_at_lem : ℕ → List Posting
  list_at_lem k = (so_far k).list

  known_at : (k : ℕ) → Sized (so_far k).book × (passes sheet (state_of (so_far k)) ≡ Ok tt)
  unfolding ran_all turned
  known_at zero = (sized, known)
  known_at (suc k) =
      let h = known_at k in
      let o = onward sheet (so_far k).book (so_far k).count (list_at_lem k) h.0 (Ok tt) h.1 (call_at calls text k) in
      (o.sized, o.known)

  pub book_fits_lem : (k : ℕ) → book_holds sheet (so_far k).book ≡ true
  book_fits_lem k = (ready sheet (so_far k).book (so_far k).count (list_at_lem k) (known_at k).1 (known_at k).0).fits
