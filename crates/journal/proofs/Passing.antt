-- A call of which it is known whether 9 or 12 refuses it: where one of them does, it is refused and leaves all as it was; otherwise its own rows decide, and since
-- no call leads into 12, the same is known of the next call.
-- Assumes nothing.
use Rattle.std.specs.Prelude.{Ok, Err}
use mathlib.Core.Path.{◌≡◌, refl, sym, ap, ◌∙◌, subst}
use mathlib.Core.Bool.{Bool, true, false, cond}
use mathlib.Core.List.{List}
use Prim.Native.Nat.{ℕ}
use native.Mathlib.Omega.{arith}
use lib.ListN.{length, take as first_of}
use lib.Seq.{paste-zero}
use Rattle.sheet.specs.declared.Sheet.{Sheet}
use Rattle.sheet.specs.Ranges.{sheet_holds}
use Rattle.state.specs.declared.Book.{Book}
use Rattle.state.specs.Book.{Sized}
use Rattle.postings.specs.declared.Posting.{Posting}
use Rattle.postings.specs.Journal.{count_holds, posted_hold}
use Rattle.ledger.specs.declared.Refusal.{Refusal}
use Rattle.ledger.specs.declared.Refusal.TheVariants.{SheetRange, BookRange}
use Rattle.ledger.specs.Answers.{Verdict}
use Rattle.ledger.specs.Ledger.{Call}
use Rattle.ledger.specs.Calls.{State, Decision, fits_in, no_plan, refused_with, request_of, decided, decided_on, carried_out, outcome_of, journal_after}
use Rattle.ledger.proofs.Keeps.{carried_keeps}
use Rattle.ledger.proofs.Parts.{start_same, refused_9, refused_12}
use Rattle.ledger.proofs.Places.{book_holds_lem, count_holds_lem, decided_same, decided_9, decided_12, decided_on_lem}
use Rattle.decisions.specs.declared.Call.{Call as Decoded}
use Rattle.decisions.specs.Calls.{call_of, call_start}
use Rattle.decisions.proofs.Calls.{start_is}
use Rattle.engine.specs.Journal.{Performed, done_by, performed}
use Rattle.engine.specs.Carried.{left, carried, Ready}
use Rattle.journal.specs.Accounts.{passes}

-- neither 9 nor 12
pub none_refuses : (s : Sheet) (st : State) → passes s st ≡ Ok tt → (sheet_holds s ≡ true) × (fits_in s st ≡ true)
none_refuses s st = by (sheet_holds s) (fits_in s st)
  where
    by : (t u : Bool) → ◌≡◌ {A = Verdict} (cond t (cond u (Ok tt) (Err BookRange)) (Err SheetRange)) (Ok tt) → (t ≡ true) × (u ≡ true)
    by true true e = (refl, refl)
    by true false e = absurd (let q : ◌≡◌ {A = ℕ} 0 1 = cc in omega arith)
    by false u e = absurd (let q : ◌≡◌ {A = ℕ} 0 1 = cc in omega arith)

module _ (s : Sheet) (b : Book) (count : ℕ) (l : List Posting) where
  abbrev st : State
  st = record { book = b; count = count; journal = l }

  module _ (e : passes s st ≡ Ok tt) where
    pub ready : Sized b → Ready s b count (length l)
    ready sized =
        let p = none_refuses s st e in
        record {
          sized = sized;
          holds = p.0;
          fits = book_holds_lem s b count (length l) _ p.1;
          counted = count_holds_lem s b count (length l) _ p.1;
        }

    pub carried_performed : (c : Call) → carried s b count l c ≡ performed l count s b c
    unfolding performed
    carried_performed c =
        let p = none_refuses s st e in
        ap (done_by l) (decided_on_lem s b (request_of s c) count (length l) (posted_hold (first_of count l)) p.0 p.1)

  -- a call from its parts, by whatever tells whether the postings up to the count hold
  module _ (c : Call) (good : Bool) where
    abbrev d : Decision
    d = decided s b (request_of s c) count (length l) good

    pub performed_by_lem : (count_holds count (length l) ≡ true → good ≡ posted_hold (first_of count l)) → (zs : List Posting) → zs ≡ journal_after l d
        → ◌≡◌ {A = Performed} (record { outcome = outcome_of d; list = zs }) (performed l count s b c)
    unfolding performed
    performed_by_lem tells zs e =
        ap (λ (z : List Posting). record { outcome = outcome_of d; list = z }) e
        ∙ ap (λ (x : Decision). record { outcome = outcome_of x; list = journal_after l x }) (decided_same s b (request_of s c) count (length l) good _ tells)

  -- which of 9 and 12 it is
  by_refusal : (r : Refusal) (c : Call) → passes s st ≡ Err r → refused_with b count (request_of s c).start r ≡ decided_on s st (request_of s c)
  by_refusal r c = by (sheet_holds s) (fits_in s st) refl refl
    where
      by : (t u : Bool) → sheet_holds s ≡ t → fits_in s st ≡ u → ◌≡◌ {A = Verdict} (cond t (cond u (Ok tt) (Err BookRange)) (Err SheetRange)) (Err r)
          → refused_with b count (request_of s c).start r ≡ decided_on s st (request_of s c)
      by true true p q f = absurd (let z : ◌≡◌ {A = ℕ} 0 1 = cc in omega arith)
      by true false p q f = let x : BookRange ≡ r = cc in rw (← x) (decided_12 s b (request_of s c) count (length l) _ p q)
      by false u p q f = let x : SheetRange ≡ r = cc in rw (← x) (decided_9 s b (request_of s c) count (length l) _ p)

  pub refused_performed : (r : Refusal) (text : List ℕ) (call : Decoded) → passes s st ≡ Err r
      → left (record { answer = Err r; place = call_start call; count = count }) b l ≡ performed l count s b (call_of text call)
  unfolding performed
  refused_performed r text call e =
      let c = call_of text call in
      let place : call_start call ≡ (request_of s c).start = start_is text call ∙ sym (start_same s c) in
      (λ i. record { outcome = record { answer = Err r; place = place i; count = count; book = b }; list = paste-zero l 0 no_plan.row i })
      ∙ ap (done_by l) (by_refusal r c e)

  -- the same is known of the next call
  pub record Onward (v : Verdict) (p : Performed) : Type 0 where
    pub sized : Sized p.outcome.book
    pub known : passes s (record { book = p.outcome.book; count = p.outcome.count; journal = p.list }) ≡ v

  after_call : (v : Verdict) (c : Call) (m : State) → (carried_out s st (request_of s c)).state ≡ m → Sized m.book → passes s m ≡ v → Onward v (performed l count s b c)
  unfolding performed carried_out
  after_call v c m e sized known = record { sized = subst (λ (x : State). Sized x.book) (sym e) sized; known = subst (λ (x : State). passes s x ≡ v) (sym e) known }

  pub onward : Sized b → (v : Verdict) → passes s st ≡ v → (c : Call) → Onward v (performed l count s b c)
  onward sized v e c = by (sheet_holds s) (fits_in s st) refl refl e
    where
      by : (t u : Bool) → sheet_holds s ≡ t → fits_in s st ≡ u → ◌≡◌ {A = Verdict} (cond t (cond u (Ok tt) (Err BookRange)) (Err SheetRange)) v → Onward v (performed l count s b c)
      by true true p q f =
          let k = carried_keeps s st c p (record { sized = sized; fits = q }) in
          after_call v c _ refl k.sized (rw (p, k.fits) f)
      by true false p q f = after_call v c st (ap (λ x. x.state) (refused_12 s st p q c)) sized (rw (p, q) f)
      by false u p q f = after_call v c st (ap (λ x. x.state) (refused_9 s st p c)) sized (rw p f)
