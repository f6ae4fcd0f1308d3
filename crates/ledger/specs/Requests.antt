-- A list of calls in numbers: eight for each call, its kind, hour, unit, the unit moved to, kWh, the part
-- of the lent text that it is given (from `begin` to before `end`), and where its record starts in that part. Kinds 1 to 6 are take, release,
-- move, settle, restate and void. A number that is no kind is a void of hour 0, which 10 refuses after 9 and 12, whatever hour stands beside it.
use Rattle.std.specs.Prelude.{ℕ, ◌+◌, ◌-◌, ◌*◌, ◌/◌, ◌<◌, cond, List, [], ◌∷◌, ◌++◌, ltb, eqb, length, get_or, drop, take as first_of}
use Rattle.finite.specs.Finite.{tabulate}
use Rattle.ledger.specs.declared.Asked.{Asked}
use Rattle.ledger.specs.Ledger.{Call, take, release, move, settle, restate, void}

abbrev pub call_numbers : ℕ
call_numbers = 8

-- the part of a text from `begin` to before `end`, as far as the text goes
unfoldable pub part_of : List ℕ → (begin end : ℕ) → List ℕ
part_of text begin end = first_of (end - begin) (drop begin text)

-- the call that numbers ask for
unfoldable pub call_for : List ℕ → Asked → Call
call_for text a =
    cond (eqb a.kind 1) (take a.hour a.unit a.kwh)
    (cond (eqb a.kind 2) (release a.hour a.unit a.kwh)
    (cond (eqb a.kind 3) (move a.hour a.unit a.to a.kwh)
    (cond (eqb a.kind 4) (settle (part_of text a.begin a.end) a.start)
    (cond (eqb a.kind 5) (restate (part_of text a.begin a.end) a.start)
    (cond (eqb a.kind 6) (void a.hour) (void 0))))))

-- the eight numbers from a place on; a place past the end has 0
abbrev pub asked_from : List ℕ → ℕ → Asked
asked_from calls at =
    record {
      kind = get_or calls at 0;
      hour = get_or calls (at + 1) 0;
      unit = get_or calls (at + 2) 0;
      to = get_or calls (at + 3) 0;
      kwh = get_or calls (at + 4) 0;
      begin = get_or calls (at + 5) 0;
      end = get_or calls (at + 6) 0;
      start = get_or calls (at + 7) 0;
    }

abbrev pub none_asked : Asked
none_asked = record { kind = 0; hour = 0; unit = 0; to = 0; kwh = 0; begin = 0; end = 0; start = 0 }

-- group i of the numbers; past the last whole group none is asked for
unfoldable pub asked_at : List ℕ → ℕ → Asked
asked_at calls i = cond (ltb i (length calls / call_numbers)) (asked_from calls (call_numbers * i)) none_asked

unfoldable pub call_at : (calls text : List ℕ) → (i : ℕ) → Call
call_at calls text i = call_for text (asked_at calls i)

-- the first n calls of the numbers
abbrev pub calls_in : (calls text : List ℕ) → (n : ℕ) → List Call
calls_in calls text n = tabulate n (call_at calls text)

-- a call in numbers, and a list of calls: the texts one after the other, each call given its own part
abbrev pub text_of : Call → List ℕ
text_of (take hour unit kwh) = []
text_of (release hour unit kwh) = []
text_of (move hour from to kwh) = []
text_of (settle text start) = text
text_of (restate text start) = text
text_of (void hour) = []

abbrev pub numbers_of : (at : ℕ) → Call → List ℕ
numbers_of at (take hour unit kwh) = 1 ∷ hour ∷ unit ∷ 0 ∷ kwh ∷ 0 ∷ 0 ∷ 0 ∷ []
numbers_of at (release hour unit kwh) = 2 ∷ hour ∷ unit ∷ 0 ∷ kwh ∷ 0 ∷ 0 ∷ 0 ∷ []
numbers_of at (move hour from to kwh) = 3 ∷ hour ∷ from ∷ to ∷ kwh ∷ 0 ∷ 0 ∷ 0 ∷ []
numbers_of at (settle text start) = 4 ∷ 0 ∷ 0 ∷ 0 ∷ 0 ∷ at ∷ (at + length text) ∷ start ∷ []
numbers_of at (restate text start) = 5 ∷ 0 ∷ 0 ∷ 0 ∷ 0 ∷ at ∷ (at + length text) ∷ start ∷ []
numbers_of at (void hour) = 6 ∷ hour ∷ 0 ∷ 0 ∷ 0 ∷ 0 ∷ 0 ∷ 0 ∷ []

unfoldable pub texts_of : List Call → List ℕ
texts_of [] = []
texts_of (c ∷ cs) = text_of c ++ texts_of cs

unfoldable pub numbers_from : (at : ℕ) → List Call → List ℕ
numbers_from at [] = []
numbers_from at (c ∷ cs) = numbers_of at c ++ numbers_from (at + length (text_of c)) cs

-- numbers that a machine word holds: below n
abbrev pub Below : ℕ → List ℕ → Type 0
Below n [] = Unit {0}
Below n (x ∷ xs) = (x < n) × Below n xs

-- the hour, units, kWh and start of a call
abbrev pub given : Call → List ℕ
given (take hour unit kwh) = hour ∷ unit ∷ kwh ∷ []
given (release hour unit kwh) = hour ∷ unit ∷ kwh ∷ []
given (move hour from to kwh) = hour ∷ from ∷ to ∷ kwh ∷ []
given (settle text start) = start ∷ []
given (restate text start) = start ∷ []
given (void hour) = hour ∷ []

abbrev pub AllBelow : ℕ → List Call → Type 0
AllBelow n [] = Unit {0}
AllBelow n (c ∷ cs) = Below n (given c) × AllBelow n cs
