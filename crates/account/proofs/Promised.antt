-- A turn of the day is one call carried out, so what the day leaves is what its list of calls leaves, and the promise about every list of calls
-- holds of it.
-- Assumes nothing.
use mathlib.Core.Path.{◌≡◌, refl, sym, ap, ◌∙◌, subst}
use mathlib.Core.List.{List}
use Prim.Native.Nat.{ℕ, zero, suc}
use Rattle.std.specs.Prelude.{Ok, Err, Some, None}
use lib.ListN.{replicate}
use Rattle.sheet.specs.declared.Sheet.{Sheet}
use Rattle.postings.specs.Journal.{no_posting}
use Rattle.ledger.specs.Requests.{call_for}
use Rattle.ledger.specs.Calls.{State, carried_out, request_of, ran_from, begun as begun_state}
use Rattle.ledger.specs.Demand.{Demand}
use Rattle.ledger.proofs.Promise.{promise}
use Rattle.engine.specs.Journal.{performed}
use Rattle.day_calls.specs.declared.Step.{Step}
use Rattle.account.specs.Day.{Pending, day_after, Running, turned, ran_by, ran_to, ran_out, calls_by, calls_to, most_calls, state_of, begun, day_calls}

module _ (sheet : Sheet) (text : List ℕ) where
  pub turn_state : (r : Running) (x : Step) → state_of (turned sheet text r x) ≡ (carried_out sheet (state_of r) (request_of sheet (call_for text x.asked))).state
  unfolding turned day_after performed carried_out
  turn_state r x = refl

  by_due : (k : ℕ) (r : Running) (p : Pending)
      → ((x : Step) → state_of (ran_to sheet text k (turned sheet text r x)) ≡ (ran_from sheet (state_of (turned sheet text r x)) (calls_to sheet text k (turned sheet text r x))).state)
      → state_of (ran_by sheet text (ran_to sheet text k) r p) ≡ (ran_from sheet (state_of r) (calls_by sheet text (calls_to sheet text k) r p)).state
  unfolding ran_from
  by_due k r (Ok (Some x)) next = next x ∙ ap (λ (st : State). (ran_from sheet st (calls_to sheet text k (turned sheet text r x))).state) (turn_state r x)
  by_due k r (Ok None) next = refl
  by_due k r (Err e) next = refl

  -- the state after the turns is that after their calls
  run_state : (k : ℕ) (r : Running) → state_of (ran_to sheet text k r) ≡ (ran_from sheet (state_of r) (calls_to sheet text k r)).state
  unfolding ran_to calls_to ran_from
  run_state zero r = refl
  run_state (suc k) r = by_due k r r.day.due (λ x. run_state k (turned sheet text r x))

  start_state : (at : ℕ) → state_of (begun text at) ≡ begun_state (replicate 2000 no_posting)
  unfolding begun
  start_state at = refl

  -- the promise about every list of calls, of the day's
  pub day_demand : (at : ℕ) → Demand sheet (replicate 2000 no_posting) (day_calls sheet text at)
      (ran_from sheet (begun_state (replicate 2000 no_posting)) (day_calls sheet text at)).replies (state_of (ran_out sheet text (begun text at)))
  day_demand at =
      let calls = day_calls sheet text at in
      let journal = replicate 2000 no_posting in
      subst (λ (st : State). Demand sheet journal calls (ran_from sheet (begun_state journal) calls).replies st)
      (sym (run_state (most_calls text) (begun text at) ∙ ap (λ (st : State). (ran_from sheet st calls).state) (start_state at)))
      (promise sheet journal calls)
