-- A list of calls with one more call at its end: that call comes upon what the others left, and its reply stands last.
-- Assumes nothing.
use mathlib.Core.Path.{◌≡◌}
use mathlib.Core.List.{List, [], ◌∷◌, ◌++◌}
use Rattle.sheet.specs.declared.Sheet.{Sheet}
use Rattle.ledger.specs.Ledger.{Call}
use Rattle.ledger.specs.Calls.{State, Ran, carried_out, request_of, ran_from}
use Rattle.ledger.proofs.Parts.{two_parts}

module _ (s : Sheet) (c : Call) where
  -- what one more call makes of a list that ran
  abbrev pub further : Ran → Ran
  further r =
      let m = carried_out s r.state (request_of s c) in
      record { replies = r.replies ++ (m.reply ∷ []); state = m.state }

  pub ran_further : (st : State) (cs : List Call) → ran_from s st (cs ++ (c ∷ [])) ≡ further (ran_from s st cs)
  unfolding ran_from
  ran_further st cs = two_parts s st cs (c ∷ [])
