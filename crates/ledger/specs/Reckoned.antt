-- What a list of calls and their replies tells without any ledger: what accepted calls took and gave up, and the last accepted record of
-- an hour. Demand 3 reckons commitments and amounts from these.
use Rattle.std.specs.Prelude.{ℕ, zero, suc, ◌+◌, Bool, cond, ◌&&◌, List, [], ◌∷◌, eqb, ℤ, pos, ◌+ℤ◌}
use Rattle.sheet.specs.declared.Sheet.{Sheet}
use Rattle.postings.specs.declared.Posting.{Posting}
use Rattle.postings.specs.Journal.{is_of}
use Rattle.ledger.specs.Ledger.{Call, take, release, move, settle, restate, void, Kept, none, kept, Reply, given}

-- a call is accepted where it gets no refusal
abbrev pub accepted : Reply → Bool
accepted a = eqb a.number 0

-- the kWh of a call, where it was accepted and is the hour's and the unit's
abbrev pub counted : Reply → Bool → Bool → ℕ → ℕ
counted a hour unit kwh = cond (accepted a && (hour && unit)) kwh 0

-- what a call took or moved in for an hour and unit
abbrev pub took_for : ℕ → ℕ → Call → Reply → ℕ
took_for h u (take hour unit kwh) a = counted a (eqb h hour) (eqb u unit) kwh
took_for h u (release hour unit kwh) a = 0
took_for h u (move hour from to kwh) a = counted a (eqb h hour) (eqb u to) kwh
took_for h u (settle text start) a = 0
took_for h u (restate text start) a = 0
took_for h u (void hour) a = 0

-- what a call released or moved out
abbrev pub gave_for : ℕ → ℕ → Call → Reply → ℕ
gave_for h u (take hour unit kwh) a = 0
gave_for h u (release hour unit kwh) a = counted a (eqb h hour) (eqb u unit) kwh
gave_for h u (move hour from to kwh) a = counted a (eqb h hour) (eqb u from) kwh
gave_for h u (settle text start) a = 0
gave_for h u (restate text start) a = 0
gave_for h u (void hour) a = 0

-- over all calls and their replies
unfoldable pub tally : (Call → Reply → ℕ) → List Call → List Reply → ℕ
tally f [] replies = 0
tally f (c ∷ cs) [] = 0
tally f (c ∷ cs) (a ∷ rest) = f c a + tally f cs rest

abbrev pub took : ℕ → ℕ → List Call → List Reply → ℕ
took h u calls replies = tally (took_for h u) calls replies

abbrev pub gave : ℕ → ℕ → List Call → List Reply → ℕ
gave h u calls replies = tally (gave_for h u) calls replies

-- the record of an hour after a call: an accepted settle or restate of the hour puts its own, an accepted void drops it
abbrev pub record_after : Sheet → ℕ → Kept → Call → Reply → Kept
record_after sheet h k (take hour unit kwh) a = k
record_after sheet h k (release hour unit kwh) a = k
record_after sheet h k (move hour from to kwh) a = k
record_after sheet h k (settle text start) a =
    cond (accepted a && eqb h (given sheet text start).read.hour) (kept (given sheet text start).read) k
record_after sheet h k (restate text start) a =
    cond (accepted a && eqb h (given sheet text start).read.hour) (kept (given sheet text start).read) k
record_after sheet h k (void hour) a = cond (accepted a && eqb h hour) none k

-- the last accepted record of an hour that no accepted void follows, of calls that come upon k
unfoldable pub last_from : Sheet → ℕ → Kept → List Call → List Reply → Kept
last_from sheet h k [] replies = k
last_from sheet h k (c ∷ cs) [] = k
last_from sheet h k (c ∷ cs) (a ∷ rest) = last_from sheet h (record_after sheet h k c a) cs rest

-- a sum over the numbers below n, with signs
unfoldable pub sum_z : ℕ → (ℕ → ℤ) → ℤ
sum_z zero f = pos 0
sum_z (suc n) f = sum_z n f +ℤ f n

-- what a posting adds to the total of a unit and item
abbrev pub of_item : ℕ → ℕ → Posting → ℤ
of_item unit item p = cond (is_of p unit item) p.amount (pos 0)
