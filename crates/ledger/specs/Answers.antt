-- What a call answers: document 01's refusal, or what was done.
use Rattle.std.specs.Prelude.{ℤ, Result}
use Rattle.ledger.specs.declared.Refusal.{Refusal}
use Rattle.ledger.specs.declared.Effect.{Effect}

-- whether a call is accepted
abbrev pub Verdict : Type 0
Verdict = Result (Unit {0}) Refusal

-- what a call answers: what it did, or why it is refused
abbrev pub Answer : Type 0
Answer = Result Effect Refusal

-- what a total call answers: the total, or why it is refused
abbrev pub TotalAnswer : Type 0
TotalAnswer = Result ℤ Refusal
