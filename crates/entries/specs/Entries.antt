-- What `replay` prints of a call, as bytes: 10 is LF, 32 a space. "Each line ends in LF; a zero has no sign."
use Rattle.std.specs.Prelude.{ℕ, cond, List, [], ◌∷◌, ◌++◌, ltb, ℤ, drop, Result, Ok, Err}
use Rattle.decimal.specs.Decimal.{digits, signed}
use Rattle.text.specs.Text.{before}
use Rattle.text.specs.Bytes.{bytes}
use Rattle.lines.specs.declared.TextRefusal.{TextRefusal}
use Rattle.ledger.specs.declared.Refusal.{Refusal}
use Rattle.ledger.specs.declared.Refusal.TheVariants.{Text}
use Rattle.ledger.specs.Answers.{Answer, TotalAnswer}
use Rattle.ledger.specs.declared.Effect.{Effect}
use Rattle.ledger.specs.declared.Effect.TheVariants.{Committed, Posted}
use Rattle.ledger.specs.Numbers.{refusal_number, refusal_line}

-- a number, or an amount in Rial, behind a space
abbrev pub field : ℕ → List ℕ
field n = 32 ∷ digits n

abbrev pub amount_field : ℤ → List ℕ
amount_field z = 32 ∷ signed z

-- "for 1 to 4 `line=LINE`, LINE counted in the record"
unfoldable pub place_text : Refusal → List ℕ
place_text r = cond (ltb 4 (refusal_number r)) [] (bytes " line=" ++ digits (refusal_line r))

-- "`refused=NUMBER`, and for 1 to 4 `refused=NUMBER line=LINE`"
unfoldable pub refusal_text : Refusal → List ℕ
refusal_text r = bytes "refused=" ++ (digits (refusal_number r) ++ place_text r)

-- "The sheet refused: `sheet refused=NUMBER line=LINE` and nothing else."
unfoldable pub sheet_refused : TextRefusal → List ℕ
sheet_refused t = bytes "sheet " ++ (refusal_text (Text t) ++ (10 ∷ []))

-- "`accepted` (take, release, move), `accepted=POSTINGS` (settle, restate, void)"
unfoldable pub effect_text : Effect → List ℕ
effect_text Committed = bytes "accepted"
effect_text (Posted n) = bytes "accepted=" ++ digits n

-- "`sum=RIAL` (total)"
unfoldable pub sum_text : ℤ → List ℕ
sum_text sum = bytes "sum=" ++ signed sum

-- of a line that is refused, why
unfoldable pub outcome_text : {T : Type 0} → (T → List ℕ) → Result T Refusal → List ℕ
outcome_text text (Ok accepted) = text accepted
outcome_text text (Err r) = refusal_text r

-- what a call and a total print
abbrev pub answer_text : Answer → List ℕ
answer_text a = outcome_text effect_text a

abbrev pub total_text : TotalAnswer → List ℕ
total_text t = outcome_text sum_text t

-- the line at a place of the text, without its LF
unfoldable pub line_text : List ℕ → ℕ → List ℕ
line_text text from = before 10 (drop from text)

-- "Each call prints its line as it stands, a space and its result"
unfoldable pub entry_line : List ℕ → (from : ℕ) → (result : List ℕ) → List ℕ
entry_line text from result = line_text text from ++ (32 ∷ result ++ (10 ∷ []))

-- "A line that is no call ends the run: `line=N refused=NUMBER`"
unfoldable pub stop_line : (line refusal : ℕ) → List ℕ
stop_line line refusal = bytes "line=" ++ (digits line ++ (bytes " refused=" ++ (digits refusal ++ (10 ∷ []))))
