-- What `run` leaves is what the definitions make of its calls: each turn is one call carried out, and its reply can be read back from its four
-- places, which no later turn writes. So the promise about every list of calls holds of it.
-- Assumes nothing.
use mathlib.Core.Path.{◌≡◌, refl, sym, ap, ◌∙◌, subst}
use mathlib.Core.List.{List, [], ◌∷◌, ◌++◌}
use Prim.Native.Nat.{ℕ, zero, suc, ◌+◌, ◌*◌, ◌/◌, ◌≤◌, ◌<◌}
use native.Mathlib.Omega.{arith}
use borrow.Author.Tests.{lt-ltb}
use lib.ListN.{length, get_or, set, length-set}
use lib.Seq.{get_or-set_same, get_or-set_other}
use Rattle.finite.specs.Finite.{tabulate}
use Rattle.finite.proofs.Tables.{tabulate_same}
use Rattle.sheet.specs.declared.Sheet.{Sheet}
use Rattle.state.specs.Book.{empty_book}
use Rattle.postings.specs.declared.Posting.{Posting}
use Rattle.ledger.specs.declared.Outcome.{Outcome}
use Rattle.ledger.specs.Ledger.{Reply}
use Rattle.ledger.specs.Numbers.{reply_of, number_of, line_of, posted_of}
use Rattle.ledger.specs.Requests.{call_at, calls_in}
use Rattle.ledger.specs.Calls.{State, Ran, carried_out, request_of, ran_from, begun}
use Rattle.ledger.specs.Demand.{Demand}
use Rattle.ledger.proofs.Onward.{further, ran_further}
use Rattle.ledger.proofs.Promise.{promise}
use Rattle.engine.specs.Journal.{performed}
use Rattle.journal.specs.Run.{Running, start_on, answered, reply_in, replies_in, turns_of, state_of, performed_at, turned, ran_all}
use Rattle.journal.proofs.Replies.{length_answers, reply_is}

-- four numbers stored from a place on, read back; earlier places keep theirs
module _ (l : List ℕ) (p a b c d : ℕ) where
  abbrev l₁ : List ℕ
  l₁ = set l p a

  abbrev l₂ : List ℕ
  l₂ = set l₁ (p + 1) b

  abbrev l₃ : List ℕ
  l₃ = set l₂ (p + 2) c

  abbrev l₄ : List ℕ
  l₄ = set l₃ (p + 3) d

  before : (j : ℕ) → j < p → get_or l₄ j 0 ≡ get_or l j 0
  before j h =
      get_or-set_other l₃ (p + 3) j d 0 (λ e. omega arith)
      ∙ (get_or-set_other l₂ (p + 2) j c 0 (λ e. omega arith)
      ∙ (get_or-set_other l₁ (p + 1) j b 0 (λ e. omega arith) ∙ get_or-set_other l p j a 0 (λ e. omega arith)))

  module _ (h : p + 3 < length l) where
    same₁ : length l₁ ≡ length l
    same₁ = length-set l p a

    same₂ : length l₂ ≡ length l
    same₂ = length-set l₁ (p + 1) b ∙ same₁

    same₃ : length l₃ ≡ length l
    same₃ = length-set l₂ (p + 2) c ∙ same₂

    at₀ : get_or l₄ p 0 ≡ a
    at₀ =
        get_or-set_other l₃ (p + 3) p d 0 (λ e. omega arith)
        ∙ (get_or-set_other l₂ (p + 2) p c 0 (λ e. omega arith)
        ∙ (get_or-set_other l₁ (p + 1) p b 0 (λ e. omega arith) ∙ get_or-set_same l p a 0 (omega arith)))

    at₁ : get_or l₄ (p + 1) 0 ≡ b
    at₁ =
        get_or-set_other l₃ (p + 3) (p + 1) d 0 (λ e. omega arith)
        ∙ (get_or-set_other l₂ (p + 2) (p + 1) c 0 (λ e. omega arith) ∙ get_or-set_same l₁ (p + 1) b 0 (omega (arith, same₁)))

    at₂ : get_or l₄ (p + 2) 0 ≡ c
    at₂ = get_or-set_other l₃ (p + 3) (p + 2) d 0 (λ e. omega arith) ∙ get_or-set_same l₂ (p + 2) c 0 (omega (arith, same₂))

    at₃ : get_or l₄ (p + 3) 0 ≡ d
    at₃ = get_or-set_same l₃ (p + 3) d 0 (omega (arith, same₃))

-- an answer that is stored: read back, and the earlier ones as they were
module _ (l : List ℕ) (k : ℕ) (o : Outcome) (h : k < length l / 4) where
  stored : answered l k o ≡ l₄ l (4 * k) (number_of o.answer) (line_of o.answer) (posted_of o.answer) o.place
  unfolding answered
  stored = simp (lt-ltb k (length l / 4) h)

  read_back : reply_in (answered l k o) k ≡ reply_of o.answer o.place
  read_back =
      let x = number_of o.answer in
      let y = line_of o.answer in
      let z = posted_of o.answer in
      let room : 4 * k + 3 < length l = omega arith in
      ap (λ (m : List ℕ). reply_in m k) stored
      ∙ ((λ i. record { number = at₀ l (4 * k) x y z o.place room i; line = at₁ l (4 * k) x y z o.place room i; posted = at₂ l (4 * k) x y z o.place room i; place = at₃ l (4 * k) x y z o.place room i })
      ∙ reply_is o.answer o.place)

  earlier : (j : ℕ) → j < k → reply_in (answered l k o) j ≡ reply_in l j
  earlier j b =
      let w = before l (4 * k) (number_of o.answer) (line_of o.answer) (posted_of o.answer) o.place in
      ap (λ (m : List ℕ). reply_in m j) stored
      ∙ (λ i. record { number = w (4 * j) (omega arith) i; line = w (4 * j + 1) (omega arith) i; posted = w (4 * j + 2) (omega arith) i; place = w (4 * j + 3) (omega arith) i })

-- one turn is one call carried out
pub turn_state : (sheet : Sheet) (calls text : List ℕ) (s : Running) (k : ℕ)
    → state_of (turned sheet calls text s k) ≡ (carried_out sheet (state_of s) (request_of sheet (call_at calls text k))).state
unfolding turned performed carried_out
turn_state sheet calls text s k = refl

module _ (sheet : Sheet) (calls text : List ℕ) (journal : List Posting) (answers : List ℕ) where
  abbrev begin : Running
  begin = start_on journal answers 0 empty_book

  abbrev ran_to : ℕ → Running
  ran_to k = ran_all sheet calls text begin k

  abbrev ran_by : ℕ → Ran
  ran_by k = ran_from sheet (begun journal) (calls_in calls text k)

  -- a turn's reply is that of the call carried out
  turn_reply : (s : Running) (k : ℕ) → k < length s.answers / 4
      → reply_in (turned sheet calls text s k).answers k ≡ (carried_out sheet (state_of s) (request_of sheet (call_at calls text k))).reply
  unfolding turned performed carried_out
  turn_reply s k h = read_back s.answers k (performed_at sheet calls text s k).outcome h

  by_more : (k : ℕ) → ran_by (suc k) ≡ further sheet (call_at calls text k) (ran_by k)
  unfolding tabulate
  by_more k = ran_further sheet (call_at calls text k) (begun journal) (calls_in calls text k)

  pub states : (k : ℕ) → state_of (ran_to k) ≡ (ran_by k).state
  unfolding ran_all ran_from tabulate
  states zero = refl
  states (suc k) =
      turn_state sheet calls text (ran_to k) k
      ∙ (ap (λ (st : State). (carried_out sheet st (request_of sheet (call_at calls text k))).state) (states k)
      ∙ ap (λ (r : Ran). r.state) (sym (by_more k)))

  -- the replies before the last one, and the last one
  kept : (k : ℕ) → k < length answers / 4 → tabulate k (reply_in (ran_to (suc k)).answers) ≡ replies_in (ran_to k).answers k
  unfolding ran_all turned
  kept k h =
      tabulate_same k (reply_in (ran_to (suc k)).answers) (reply_in (ran_to k).answers)
      (λ j b. earlier (ran_to k).answers k (performed_at sheet calls text (ran_to k) k).outcome (omega (arith, length_answers sheet calls text begin k)) j b)

  last : (k : ℕ) → k < length answers / 4
      → reply_in (ran_to (suc k)).answers k ≡ (carried_out sheet (ran_by k).state (request_of sheet (call_at calls text k))).reply
  unfolding ran_all
  last k h =
      turn_reply (ran_to k) k (omega (arith, length_answers sheet calls text begin k))
      ∙ ap (λ (st : State). (carried_out sheet st (request_of sheet (call_at calls text k))).reply) (states k)

  pub replies : (k : ℕ) → k ≤ length answers / 4 → replies_in (ran_to k).answers k ≡ (ran_by k).replies
  unfolding ran_from tabulate
  replies zero h = refl
  replies (suc k) h =
      (λ i. (kept k h ∙ replies k (omega arith)) i ++ (last k h i ∷ []))
      ∙ ap (λ (r : Ran). r.replies) (sym (by_more k))

  -- the promise about the whole list, of what is left after so many calls
  ran_demand : (k : ℕ) → k ≤ length answers / 4 → Demand sheet journal (calls_in calls text k) (replies_in (ran_to k).answers k) (state_of (ran_to k))
  ran_demand k h =
      subst (λ (r : List Reply). Demand sheet journal (calls_in calls text k) r (state_of (ran_to k))) (sym (replies k h))
      (subst (λ (st : State). Demand sheet journal (calls_in calls text k) (ran_by k).replies st) (sym (states k))
      (promise sheet journal (calls_in calls text k)))

  pub run_demand : (k : ℕ) → k ≤ length answers / 4 → (s : Running) → s ≡ ran_to k → Demand sheet journal (calls_in calls text k) (replies_in s.answers k) (state_of s)
  run_demand k h s e = subst (λ (x : Running). Demand sheet journal (calls_in calls text k) (replies_in x.answers k) (state_of x)) (sym e) (ran_demand k h)

-- there are places for the answers of all calls that are carried out
pub turns_room : (calls answers : ℕ) → turns_of calls answers ≤ answers / 4
unfolding turns_of
turns_room calls answers = omega arith
