-- The single calls, folded over any list of calls, are the calls of the definitions: each is one call carried out, by unfolding, on what the one
-- before it left. So from the empty book on the promise about every list of calls holds of them too.
-- Assumes nothing.
use mathlib.Core.Path.{◌≡◌, refl, sym, ap, subst}
use mathlib.Core.List.{List, [], ◌∷◌}
use Prim.Native.Nat.{ℕ}
use Rattle.sheet.specs.declared.Sheet.{Sheet}
use Rattle.state.specs.declared.Book.{Book}
use Rattle.state.specs.Book.{empty_book}
use Rattle.postings.specs.declared.Posting.{Posting}
use Rattle.ledger.specs.Ledger.{Call}
use Rattle.ledger.specs.Numbers.{reply_of}
use Rattle.ledger.specs.Calls.{Ran, carried_out, ran_from}
use Rattle.ledger.specs.Demand.{Demand}
use Rattle.ledger.proofs.Promise.{promise}
use Rattle.engine.specs.Journal.{performed}
use Rattle.journal.specs.Folded.{state_left, folded}

-- from any list, count and book
pub folded_ran : (s : Sheet) (cs : List Call) (l : List Posting) (count : ℕ) (b : Book)
    → ◌≡◌ {A = Ran} (record { replies = (folded s l count b cs).replies; state = state_left (folded s l count b cs) }) (ran_from s (record { book = b; count = count; journal = l }) cs)
unfolding folded ran_from performed carried_out
folded_ran s [] l count b = refl
folded_ran s (c ∷ cs) l count b =
    let p = performed l count s b c in
    ap (λ (r : Ran). record { replies = reply_of p.outcome.answer p.outcome.place ∷ r.replies; state = r.state }) (folded_ran s cs p.list p.outcome.count p.outcome.book)

pub folded_demand : (s : Sheet) (journal : List Posting) (cs : List Call) → Demand s journal cs (folded s journal 0 empty_book cs).replies (state_left (folded s journal 0 empty_book cs))
folded_demand s journal cs = subst (λ (r : Ran). Demand s journal cs r.replies r.state) (sym (folded_ran s cs journal 0 empty_book)) (promise s journal cs)
