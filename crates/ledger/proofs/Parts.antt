-- A list of calls in two parts: the second part comes upon what the first left, and changes none of its replies. Where 9 or 12 holds, every call is
-- refused with it and changes nothing, so it holds for the next call too; and a void of hour 0 is refused with 10 where neither holds.
-- Assumes nothing.
use Rattle.std.specs.Prelude.{Err}
use mathlib.Core.Path.{◌≡◌, refl, ap, ◌∙◌}
use mathlib.Core.Bool.{Bool, true, false, not}
use mathlib.Core.List.{List, [], ◌∷◌, ◌++◌, map}
use Prim.Native.Nat.{ℕ, suc}
use lib.ListN.{length, take as first_of}
use lib.Seq.{take_at}
use Rattle.sheet.specs.declared.Sheet.{Sheet}
use Rattle.sheet.specs.Ranges.{sheet_holds}
use Rattle.ledger.specs.declared.Refusal.{Refusal}
use Rattle.ledger.specs.declared.Refusal.TheVariants.{SheetRange, BookRange, HourRange}
use Rattle.ledger.specs.Numbers.{reply_of}
use Rattle.ledger.specs.Ledger.{Call, take, release, move, settle, restate, void, Reply, start_of}
use Rattle.ledger.specs.Calls.{State, Moved, Ran, row, verdict, request_rows, by_verdict, refused_with, accepted_in, decided, decided_on, fits_in, carried_out, request_of, ran_from, Request, Decision}
use Rattle.ledger.proofs.Follow.{after, unposted}

-- two parts of a list
abbrev pub joined : Ran → Ran → Ran
joined first second = record { replies = first.replies ++ second.replies; state = second.state }

pub two_parts : (s : Sheet) (st : State) (xs ys : List Call)
    → ran_from s st (xs ++ ys) ≡ joined (ran_from s st xs) (ran_from s (ran_from s st xs).state ys)
unfolding ran_from
two_parts s st [] ys = refl
two_parts s st (c ∷ xs) ys =
    let m = carried_out s st (request_of s c) in
    ap (λ (r : Ran). record { replies = m.reply ∷ r.replies; state = r.state }) (two_parts s m.state xs ys)

-- a reply for each call
pub replies_length : (s : Sheet) (st : State) (cs : List Call) → length (ran_from s st cs).replies ≡ length cs
unfolding ran_from
replies_length s st [] = refl
replies_length s st (c ∷ cs) = ap suc (replies_length s (carried_out s st (request_of s c)).state cs)

pub earlier_answers : (s : Sheet) (st : State) (xs ys : List Call) → first_of (length xs) (ran_from s st (xs ++ ys)).replies ≡ (ran_from s st xs).replies
earlier_answers s st xs ys =
    ap (λ (r : Ran). first_of (length xs) r.replies) (two_parts s st xs ys)
    ∙ take_at (ran_from s st xs).replies (ran_from s (ran_from s st xs).state ys).replies (length xs) (replies_length s st xs)

-- a call that is refused with a number, without a line
abbrev pub refused_reply : (number : ℕ) → Call → Reply
refused_reply number c = record { number = number; line = 0; posted = 0; place = start_of c }

abbrev pub refused_call : (number : ℕ) → State → Call → Moved
refused_call number st c = record { reply = refused_reply number c; state = st }

pub start_same : (s : Sheet) (c : Call) → (request_of s c).start ≡ start_of c
start_same s (take hour unit kwh) = refl
start_same s (release hour unit kwh) = refl
start_same s (move hour from to kwh) = refl
start_same s (settle text start) = refl
start_same s (restate text start) = refl
start_same s (void hour) = refl

module _ (s : Sheet) (st : State) where
  refused_with_lem : (c : Call) (r : Refusal) → decided_on s st (request_of s c) ≡ refused_with st.book st.count (request_of s c).start r
      → carried_out s st (request_of s c) ≡ record { reply = reply_of (Err r) (start_of c); state = st }
  unfolding carried_out
  refused_with_lem c r e =
      ap {B = Moved} (λ (d : Decision). record { reply = reply_of d.answer d.place; state = after st d }) e
      ∙ (λ i. record { reply = reply_of (Err r) (start_same s c i); state = unposted st st.book i })

  -- what a request comes to, by whether 9 and 12 hold
  abbrev by : (sheet_fits book_fits : Bool) → Request → Decision
  by sheet_fits book_fits q =
      by_verdict (verdict (row SheetRange (not sheet_fits) ∷ row BookRange (not book_fits) ∷ request_rows s st.book q st.count (length st.journal)))
      (accepted_in s st.book q st.count) (refused_with st.book st.count q.start)

  decided_by : (x y : Bool) → sheet_holds s ≡ x → fits_in s st ≡ y → (q : Request) → decided_on s st q ≡ by x y q
  unfolding decided
  decided_by x y d e q i = by (d i) (e i) q

  pub refused_9 : sheet_holds s ≡ false → (c : Call) → carried_out s st (request_of s c) ≡ refused_call 9 st c
  unfolding verdict
  refused_9 d c = refused_with_lem c SheetRange (decided_by false (fits_in s st) d refl (request_of s c))

  module _ (d : sheet_holds s ≡ true) where
    pub refused_12 : fits_in s st ≡ false → (c : Call) → carried_out s st (request_of s c) ≡ refused_call 12 st c
    unfolding verdict
    refused_12 e c = refused_with_lem c BookRange (decided_by true false d e (request_of s c))

    -- what a number that is no kind asks for
    pub refused_10 : fits_in s st ≡ true → carried_out s st (request_of s (void 0)) ≡ refused_call 10 st (void 0)
    unfolding verdict request_rows
    refused_10 e = refused_with_lem (void 0) HourRange (decided_by true true d e (request_of s (void 0)))

  -- every call of a list
  all_refused : (number : ℕ) → ((c : Call) → carried_out s st (request_of s c) ≡ refused_call number st c) → (cs : List Call)
      → ran_from s st cs ≡ record { replies = map (refused_reply number) cs; state = st }
  unfolding ran_from
  all_refused number h [] = refl
  all_refused number h (c ∷ cs) =
      ap {B = Ran} (λ (m : Moved). let r = ran_from s m.state cs in record { replies = m.reply ∷ r.replies; state = r.state }) (h c)
      ∙ ap (λ (r : Ran). record { replies = refused_reply number c ∷ r.replies; state = r.state }) (all_refused number h cs)

  pub all_refused_9 : sheet_holds s ≡ false → (cs : List Call) → ran_from s st cs ≡ record { replies = map (refused_reply 9) cs; state = st }
  all_refused_9 d = all_refused 9 (refused_9 d)

  pub all_refused_12 : sheet_holds s ≡ true → fits_in s st ≡ false → (cs : List Call)
      → ran_from s st cs ≡ record { replies = map (refused_reply 12) cs; state = st }
  all_refused_12 d e = all_refused 12 (refused_12 d e)
