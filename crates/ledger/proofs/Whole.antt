-- Demand 3 as a law about the definitions: the calls follow the ledger one by one, and what the ledger's calls and replies reckon up to holds
-- of the book and the journal that agree with it.
-- Assumes nothing.
use mathlib.Core.Path.{◌≡◌, refl, ap, sym, ◌∙◌}
use mathlib.Core.Bool.{Bool, true, false, cond, not, ◌&&◌}
use mathlib.Core.List.{List, [], ◌∷◌}
use Prim.Native.Nat.{ℕ, zero, suc, ◌+◌, ◌-◌, ◌≤◌, ◌<◌}
use native.Mathlib.Nat.{not-suc-le-zero}
use native.Mathlib.Omega.{arith}
use borrow.Author.Tests.{ne_eqb}
use lib.ListN.{length, get_or, take, drop}
use lib.Seq.{drop-drop}
use Rattle.energy.specs.declared.HubKwh.{HubKwh}
use Rattle.energy.specs.declared.HubGrains.{HubGrains}
use Rattle.sheet.specs.declared.Sheet.{Sheet}
use Rattle.state.proofs.Empty.{empty_sized, empty_commitment, empty_mark, empty_energy, empty_amount}
use Rattle.postings.specs.declared.Posting.{Posting}
use Rattle.ledger.specs.Ledger.{Call, Ledger, Reply, Outcome, Condition, empty_ledger, first_of, conditions_of, start_of, effect_of, step, run}
use Rattle.ledger.specs.Reckoned.{accepted}
use Rattle.ledger.specs.Calls.{State, carried_out, request_of, ran_from, begun}
use Rattle.ledger.specs.Agrees.{Agrees}
use Rattle.ledger.specs.Demand.{none_holds, reply_at}
use Rattle.ledger.proofs.Told.{Numbered, none, more, numbered, effect_accepted}
use Rattle.ledger.proofs.Ready.{Ready, step_ready}
use Rattle.ledger.proofs.Simulate.{follow}

pub record Followed (sheet : Sheet) (room : ℕ) (calls : List Call) (st : State) (l : Ledger) : Type 0 where
  pub replies : (ran_from sheet st calls).replies ≡ (run sheet room l calls).replies
  pub agrees : Agrees sheet room (ran_from sheet st calls).state (run sheet room l calls).ledger
  pub onward : st.count ≤ (ran_from sheet st calls).state.count
  pub free : drop (ran_from sheet st calls).state.count (ran_from sheet st calls).state.journal ≡ drop (ran_from sheet st calls).state.count st.journal

-- lists that agree from a place on agree from every later one
further : (n m : ℕ) (a b : List Posting) → n ≤ m → drop n a ≡ drop n b → drop m a ≡ drop m b
further n m a b l e =
    let d : n + (m - n) ≡ m = omega arith in
    ap (λ (k : ℕ). drop k a) (sym d) ∙ (sym (drop-drop (m - n) n a) ∙ (ap (drop (m - n)) e ∙ (drop-drop (m - n) n b ∙ ap (λ (k : ℕ). drop k b) d)))

pub followed : (sheet : Sheet) (room : ℕ) (calls : List Call) (st : State) (l : Ledger) → Agrees sheet room st l → Ready sheet l → Followed sheet room calls st l
unfolding ran_from run carried_out
followed sheet room [] st l a r = record { replies = refl; agrees = a; onward = omega arith; free = refl }
followed sheet room (c ∷ cs) st l a r =
    let f = follow sheet room st l a r c in
    let rest = followed sheet room cs (carried_out sheet st (request_of sheet c)).state (step sheet room l c).ledger f.agrees (step_ready sheet room l c r) in
    record {
      replies = ap (λ (x : Reply). x ∷ (ran_from sheet (carried_out sheet st (request_of sheet c)).state cs).replies) f.answers ∙ ap (λ (x : List Reply). (step sheet room l c).reply ∷ x) rest.replies;
      agrees = rest.agrees;
      onward = omega (arith, f.onward, rest.onward);
      free = rest.free ∙ further _ _ (carried_out sheet st (request_of sheet c)).state.journal st.journal rest.onward f.free;
    }

-- the empty book and the empty ledger
pub empty_agrees : (sheet : Sheet) (journal : List Posting) → Agrees sheet (length journal) (begun journal) empty_ledger
empty_agrees sheet journal =
    record {
      sized = empty_sized;
      places_are = refl;
      counted = refl;
      fits = omega arith;
      entries = refl;
      commitments = λ h k lh lk. ap (λ (q : HubKwh). q.0) (empty_commitment h k);
      marks = λ h lh. empty_mark h;
      energies = λ h k lh lk. ap (λ (g : HubGrains). g.0) (empty_energy h k);
      amounts = λ h k i lh lk li. empty_amount h k i lh lk;
    }

pub empty_ready : (sheet : Sheet) → Ready sheet empty_ledger
empty_ready sheet = record { each = λ hour r e. absurd (let z : ◌≡◌ {A = ℕ} 0 1 = cc in omega arith) }

-- accepted exactly when no condition holds
first_accepted : (cs : List Condition) (l : Ledger) (start : ℕ) (o : Outcome) → Numbered cs → o.reply.number ≡ 0
    → accepted (first_of cs l start o).reply ≡ none_holds cs
unfolding first_of none_holds
first_accepted [] l start o none e = rw e refl
first_accepted (c ∷ cs) l start o (more n m) e = by c.holds (first_accepted cs l start o m e)
  where
    by : (t : Bool) → accepted (first_of cs l start o).reply ≡ none_holds cs
        → accepted (cond t (record { reply = record { number = c.number; line = c.line; posted = 0; place = start }; ledger = l }) (first_of cs l start o)).reply ≡ (not t && none_holds cs)
    by true r = ne_eqb c.number 0 (λ q. omega arith)
    by false r = r

pub step_accepted : (sheet : Sheet) (room : ℕ) (l : Ledger) (c : Call) → accepted (step sheet room l c).reply ≡ none_holds (conditions_of sheet room l c)
unfolding step
step_accepted sheet room l c = first_accepted (conditions_of sheet room l c) l (start_of c) (effect_of sheet l c) (numbered sheet room l c) (effect_accepted sheet l c)

-- reply n is that of call n on the ledger of the calls before it
pub reply_of_lem : (sheet : Sheet) (room : ℕ) (calls : List Call) (l : Ledger) (n : ℕ) (d : Call) → n < length calls
    → reply_at (run sheet room l calls).replies n ≡ (step sheet room (run sheet room l (take n calls)).ledger (get_or calls n d)).reply
unfolding run
reply_of_lem sheet room [] l n d h = absurd (not-suc-le-zero h)
reply_of_lem sheet room (c ∷ cs) l zero d h = refl
reply_of_lem sheet room (c ∷ cs) l (suc n) d h = reply_of_lem sheet room cs (step sheet room l c).ledger n d (omega arith)
