-- A day on the way to its end: the calls that are left lead from the accounts to the end of the day, and neither 9 nor 12 refuses the next one, since the sheet
-- passes 9 and from the empty book on 12 never comes up.
-- Assumes nothing.
use mathlib.Core.Path.{◌≡◌, sym, ap, ◌∙◌, subst}
use mathlib.Core.Bool.{true}
use mathlib.Core.List.{List, []}
use Prim.Native.Nat.{ℕ, suc}
use lib.ListN.{replicate}
use Rattle.std.specs.Prelude.{Ok, Some}
use Rattle.sheet.specs.declared.Sheet.{Sheet}
use Rattle.sheet.specs.Ranges.{sheet_holds}
use Rattle.state.specs.Book.{empty_book}
use Rattle.state.specs.Ranges.{book_holds}
use Rattle.state.proofs.Empty.{empty_sized}
use Rattle.postings.specs.Journal.{no_posting}
use Rattle.ledger.specs.Calls.{ran_from}
use Rattle.ledger.specs.Requests.{call_for}
use Rattle.ledger.proofs.Promise.{promise}
use Rattle.engine.specs.declared.Done.{Done}
use Rattle.engine.specs.Journal.{Performed, performed}
use Rattle.journal.specs.declared.Accounts.{Accounts}
use Rattle.journal.specs.Accounts.{passes, Known, Performs}
use Rattle.journal.proofs.Passing.{ready}
use Rattle.journal.proofs.Turning.{known_next}
use Rattle.day_calls.specs.declared.Step.{Step}
use Rattle.account.specs.Day.{Pending, due_at, day_with, answered_by, day_after, Running, turned, ran_to, most_calls, begun, day_from}
use Rattle.account.proofs.Turned.{NoneDue, ran_next, ran_end}

-- the day on these accounts, with what is due
abbrev pub run_of : Accounts → Pending → Running
run_of a due = record { list = a.list.now; day = day_with a.count a.book due }

module _ (sheet : Sheet) (text : List ℕ) (at : ℕ) where
  pub record Underway (left : ℕ) (a : Accounts) (due : Pending) : Type 0 where
    pub sheet_is : a.sheet.now ≡ sheet
    pub known : Known a (Ok tt)
    pub ahead : (ran_to sheet text left (run_of a due)).day ≡ day_from sheet text at

  pub under_first : sheet_holds sheet ≡ true → (a : Accounts) (due : Pending) (left : ℕ) → left ≡ most_calls text → a.sheet.now ≡ sheet → a.book ≡ empty_book → a.count ≡ 0
      → a.list.now ≡ replicate 2000 no_posting → due ≡ due_at text at → Underway left a due
  unfolding begun ran_from
  under_first holds a due left m es eb ec el ed =
      let list = replicate 2000 no_posting in
      let known : passes sheet (record { book = empty_book; count = 0; journal = list }) ≡ Ok tt = rw (holds, (promise sheet list []).in_ranges) in
      record {
        sheet_is = es;
        known =
            record {
              sized = rw eb empty_sized;
              known = (λ i. passes (es i) (record { book = eb i; count = ec i; journal = el i })) ∙ known;
            };
        ahead = λ i. (ran_to sheet text (m i) (record { list = el i; day = day_with (ec i) (eb i) (ed i) })).day;
      }

  module _ (left : ℕ) (a : Accounts) (due : Pending) (u : Underway left a due) where
    book_fits_lem : book_holds sheet a.book ≡ true
    book_fits_lem =
        subst (λ (s : Sheet). book_holds s a.book ≡ true) u.sheet_is (ready a.sheet.now a.book a.count a.list.now u.known.known u.known.sized).fits

    pub under_end : NoneDue due → day_with a.count a.book due ≡ day_from sheet text at
    under_end none = sym (ap (λ (r : Running). r.day) (ran_end sheet text left (run_of a due) none)) ∙ u.ahead

    pub under_out : left ≡ 0 → day_with a.count a.book due ≡ day_from sheet text at
    unfolding ran_to
    under_out none = sym (ap (λ (k : ℕ). (ran_to sheet text k (run_of a due)).day) none) ∙ u.ahead

    -- the call that is due is carried out
    module _ (x : Step) (a' : Accounts) (r : Done) (p : Performs a (call_for text x.asked) a' r) (due' : Pending) (after : due' ≡ answered_by text x.after r.place r.answer) where
      turned_run : turned sheet text (run_of a due) x ≡ run_of a' due'
      unfolding turned day_after
      turned_run =
          let by : Performed → Running = λ q. record { list = q.list; day = day_after text x q.outcome } in
          ap (λ (s : Sheet). by (performed a.list.now a.count s a.book (call_for text x.asked))) (sym u.sheet_is)
          ∙ (ap by (sym p.done)
          ∙ (λ i. record { list = a'.list.now; day = day_with (sym p.counted i) a'.book (sym after i) }))

      pub under_next : (left' : ℕ) → left ≡ suc left' → due ≡ Ok (Some x) → Underway left' a' due'
      under_next left' some is =
          record {
            sheet_is = ap (λ s. s.now) p.same.sheet ∙ u.sheet_is;
            known = known_next a a' (Ok tt) r (call_for text x.asked) u.known p;
            ahead =
                ap (λ (q : Running). (ran_to sheet text left' q).day) (sym turned_run)
                ∙ (ap (λ (q : Running). q.day) (sym (ran_next sheet text (run_of a due) x left' is))
                ∙ (ap (λ (k : ℕ). (ran_to sheet text k (run_of a due)).day) (sym some) ∙ u.ahead));
          }
