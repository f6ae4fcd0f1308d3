-- A call decoded once is the ledger's call of its numbers, kind by kind.
-- Assumes nothing.
use mathlib.Core.Path.{◌≡◌, refl}
use mathlib.Core.Bool.{Bool, true, false, cond}
use mathlib.Core.List.{List}
use Prim.Native.Nat.{ℕ}
use lib.Dec.{eqb}
use Rattle.ledger.specs.declared.Asked.{Asked}
use Rattle.ledger.specs.Ledger.{take, release, move, settle, restate, void, start_of}
use Rattle.ledger.specs.Requests.{part_of, call_for}
use Rattle.decisions.specs.declared.CommitmentKind.{CommitmentKind}
use Rattle.decisions.specs.declared.CommitmentKind.TheVariants.{Take, Release, Move}
use Rattle.decisions.specs.declared.CommitmentCall.{CommitmentCall}
use Rattle.decisions.specs.declared.Call.{Call}
use Rattle.decisions.specs.declared.Call.TheVariants.{Commitment, Record, Void}
use Rattle.decisions.specs.Calls.{commitment_call, record_call, decoded, commitment_of, record_of, call_of, call_start}

module _ (text : List ℕ) where
  pub decoded_is : (a : Asked) → call_of text (decoded a) ≡ call_for text a
  unfolding decoded call_for
  decoded_is a = by (eqb a.kind 1) (eqb a.kind 2) (eqb a.kind 3) (eqb a.kind 4) (eqb a.kind 5) (eqb a.kind 6)
    where
      by : (k1 k2 k3 k4 k5 k6 : Bool)
          → call_of text
          (cond k1 (commitment_call Take a)
          (cond k2 (commitment_call Release a)
          (cond k3 (commitment_call Move a)
          (cond k4 (record_call false a) (cond k5 (record_call true a) (cond k6 (Void a.hour) (Void 0)))))))
          ≡ cond k1 (take a.hour a.unit a.kwh)
          (cond k2 (release a.hour a.unit a.kwh)
          (cond k3 (move a.hour a.unit a.to a.kwh)
          (cond k4 (settle (part_of text a.begin a.end) a.start)
          (cond k5 (restate (part_of text a.begin a.end) a.start) (cond k6 (void a.hour) (void 0))))))
      by true k2 k3 k4 k5 k6 = refl
      by false true k3 k4 k5 k6 = refl
      by false false true k4 k5 k6 = refl
      by false false false true k5 k6 = refl
      by false false false false true k6 = refl
      by false false false false false true = refl
      by false false false false false false = refl

  commitment_start : (k : CommitmentKind) (c : CommitmentCall) → 0 ≡ start_of (commitment_of k c)
  commitment_start Take c = refl
  commitment_start Release c = refl
  commitment_start Move c = refl

  record_start : (again : Bool) (part : List ℕ) (start : ℕ) → start ≡ start_of (record_of again part start)
  record_start true part start = refl
  record_start false part start = refl

  pub start_is : (c : Call) → call_start c ≡ start_of (call_of text c)
  start_is (Commitment c) = commitment_start c.kind c
  start_is (Record c) = record_start c.again (part_of text c.begin c.end) c.start
  start_is (Void hour) = refl
