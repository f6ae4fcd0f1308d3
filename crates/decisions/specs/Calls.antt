-- A call decoded from its numbers, once. A number that is no kind is a void of hour 0, which 10 refuses after 9 and 12.
use Rattle.std.specs.Prelude.{ℕ, Bool, true, false, cond, List, eqb}
use Rattle.ledger.specs.declared.Asked.{Asked}
use Rattle.ledger.specs.Ledger.{Call as LedgerCall, take, release, move, settle, restate, void}
use Rattle.ledger.specs.Requests.{part_of}
use Rattle.decisions.specs.declared.CommitmentKind.{CommitmentKind}
use Rattle.decisions.specs.declared.CommitmentKind.TheVariants.{Take, Release, Move}
use Rattle.decisions.specs.declared.CommitmentCall.{CommitmentCall}
use Rattle.decisions.specs.declared.Call.{Call}
use Rattle.decisions.specs.declared.Call.TheVariants.{Commitment, Record, Void}

-- a take, release or move, and a settle or restate (`again`), of a call's numbers
abbrev pub commitment_call : CommitmentKind → Asked → Call
commitment_call kind a = Commitment (record { kind = kind; hour = a.hour; unit = a.unit; to = a.to; kwh = a.kwh })

abbrev pub record_call : (again : Bool) → Asked → Call
record_call again a = Record (record { again = again; begin = a.begin; end = a.end; start = a.start })

-- the kinds' numbers
unfoldable pub decoded : Asked → Call
decoded a =
    cond (eqb a.kind 1) (commitment_call Take a)
    (cond (eqb a.kind 2) (commitment_call Release a)
    (cond (eqb a.kind 3) (commitment_call Move a)
    (cond (eqb a.kind 4) (record_call false a) (cond (eqb a.kind 5) (record_call true a) (cond (eqb a.kind 6) (Void a.hour) (Void 0))))))

-- the ledger's calls: "Take, release, move give hour, unit (move: from, to) and hub kWh"
abbrev pub commitment_of : CommitmentKind → CommitmentCall → LedgerCall
commitment_of Take c = take c.hour c.unit c.kwh
commitment_of Release c = release c.hour c.unit c.kwh
commitment_of Move c = move c.hour c.unit c.to c.kwh

-- a settle, or a restate (`again`)
abbrev pub record_of : (again : Bool) → List ℕ → (start : ℕ) → LedgerCall
record_of again text start = cond again (restate text start) (settle text start)

-- the ledger's call: a settle and a restate are given a part of the lent text
abbrev pub call_of : List ℕ → Call → LedgerCall
call_of text (Commitment c) = commitment_of c.kind c
call_of text (Record c) = record_of c.again (part_of text c.begin c.end) c.start
call_of text (Void hour) = void hour

-- where its record starts in its part of the text, 0 without one
abbrev pub call_start : Call → ℕ
call_start (Commitment c) = 0
call_start (Record c) = c.start
call_start (Void hour) = 0
