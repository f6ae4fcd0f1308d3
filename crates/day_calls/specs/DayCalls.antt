-- A day's text behind its sheet, as a list of calls with an ending (01, Program and marked figures).
use Rattle.std.specs.Prelude.{◌≡◌, ℕ, zero, suc, ◌*◌, ◌<◌, false, cond, List, [], ◌∷◌, ltb, length, drop, get_or, Result, Ok, Err, Option, Some, None}
use Rattle.std.proofs.Math.Seq.{paste}
use Rattle.text.specs.Text.{before, has, value_part, key_is}
use Rattle.text.specs.Rows.{word, limits}
use Rattle.values.specs.Values.{value_of}
use Rattle.text.specs.declared.Row.{Row}
use Rattle.text.specs.declared.TextFault.{TextFault}
use Rattle.text.specs.declared.TextFault.TheVariants.{NotDue, TextEnds}
use Rattle.text.specs.declared.Line.{Line}
use Rattle.lines.specs.Lines.{place_after}
use Rattle.record_end.specs.End.{behind_record}
use Rattle.finite.specs.Finite.{tabulate}
use Rattle.ledger.specs.declared.Asked.{Asked}
use Rattle.ledger.specs.Requests.{call_numbers, none_asked, asked_at}
use Rattle.day_calls.specs.declared.Next.{Next}
use Rattle.day_calls.specs.declared.Next.TheVariants.{Take, Settle}
use Rattle.day_calls.specs.declared.Step.{Step}

-- "`take=hour:unit:kWh`"; "A take without three numbers of at most 9 digits is 2"
abbrev pub most_taken : ℕ
most_taken = 999999999

unfoldable pub take_row : Row
take_row =
    record {
      key = word "take";
      word = word "";
      blank = false;
      order = false;
      parts = 3;
      most = 3;
      low = limits 0 0 0 0;
      high = limits most_taken most_taken most_taken 0;
    }

-- a take, and a settle with the record that begins at a place of the whole text, as calls in numbers
abbrev pub take_asked : (hour unit kwh : ℕ) → Asked
take_asked hour unit kwh = record { kind = 1; hour = hour; unit = unit; to = 0; kwh = kwh; begin = 0; end = 0; start = 0 }

abbrev pub settle_asked : List ℕ → (at : ℕ) → Asked
settle_asked text at = record { kind = 4; hour = 0; unit = 0; to = 0; kwh = 0; begin = 0; end = length text; start = at }

-- the take of a line's numbers
abbrev pub taken : Line → Asked
taken l = take_asked (get_or l.number 0 0) (get_or l.number 1 0) (get_or l.number 2 0)

-- what comes at a place: a call, or none at the text's end; or why its line is refused
abbrev pub Coming : Type 0
Coming = Result (Option Next) TextFault

-- the take of a line, with the place after it
abbrev pub take_of : Result Line TextFault → (after : ℕ) → Coming
take_of (Ok l) after = Ok (Some (Take (taken l) after))
take_of (Err f) after = Err f

-- the call of a line by its key; "a line of another key" is 1
abbrev pub line_call : List ℕ → (at : ℕ) → (line : List ℕ) → Coming
line_call text at line =
    cond (key_is line (word "take")) (take_of (value_of take_row (value_part line)) (place_after text at))
    (cond (key_is line (word "hour")) (Ok (Some (Settle (settle_asked text at)))) (Err NotDue))

-- "then `take=hour:unit:kWh` lines and hour records in any mixture": what comes at a place of the text. 4 where it "ends inside a line"
unfoldable pub next_at : List ℕ → (at : ℕ) → Coming
next_at text at =
    let rest = drop at text in
    cond (ltb at (length text)) (cond (has 10 rest) (line_call text at (before 10 rest)) (Err TextEnds)) (Ok None)

-- a call of the list with the place behind it: a take's is behind its line, a record's behind its first line that is exactly `end=hour`, or the text's
-- end
abbrev pub step_of : List ℕ → (at : ℕ) → Next → Step
step_of text at (Take a after) = record { asked = a; after = after }
step_of text at (Settle a) = record { asked = a; after = behind_record text at }

-- where no call comes, none or the fault
abbrev pub Stepped : Type 0
Stepped = Result (Option Step) TextFault

abbrev pub step_by : List ℕ → (at : ℕ) → Coming → Stepped
step_by text at (Ok (Some next)) = Ok (Some (step_of text at next))
step_by text at (Ok None) = Ok None
step_by text at (Err f) = Err f

abbrev pub step_at : List ℕ → (at : ℕ) → Stepped
step_at text at = step_by text at (next_at text at)

-- how a list of calls ends: at the text's end, or with the fault of the line that is no call
abbrev pub Ending : Type 0
Ending = Result (Unit {0}) TextFault

abbrev pub ended_by : Stepped → Ending
ended_by (Ok s) = Ok tt
ended_by (Err f) = Err f

-- the calls in their order, and the ending
pub record DayCalls : Type 0 where
  pub calls : List Asked
  pub ending : Ending

abbrev pub no_calls : Ending → DayCalls
no_calls ending = record { calls = []; ending = ending }

abbrev pub with_call : Asked → DayCalls → DayCalls
with_call a l = record { calls = a ∷ l.calls; ending = l.ending }

abbrev pub calls_by : (ℕ → DayCalls) → Stepped → DayCalls
calls_by further (Ok (Some s)) = with_call s.asked (further s.after)
calls_by further (Ok None) = no_calls (Ok tt)
calls_by further (Err f) = no_calls (Err f)

-- from a place on. Each call takes a byte of the text at least, so no more come than `left`: `day_calls_is` (proofs/Steps.antt) says it without a count
unfoldable pub calls_from : List ℕ → (left at : ℕ) → DayCalls
calls_from text zero at = no_calls (Ok tt)
calls_from text (suc left) at = calls_by (calls_from text left) (step_at text at)

abbrev pub day_calls : List ℕ → (at : ℕ) → DayCalls
day_calls text at = calls_from text (suc (length text)) at

-- a call's line has six bytes at least, so a text of 65,536 bytes has no more calls than these
abbrev pub line_bytes : ℕ
line_bytes = 6

-- a call's numbers in their order, and stored as call i of a list
abbrev pub number_of : Asked → ℕ → ℕ
number_of a i = get_or (a.kind ∷ a.hour ∷ a.unit ∷ a.to ∷ a.kwh ∷ a.begin ∷ a.end ∷ a.start ∷ []) i 0

unfoldable pub stored_at : List ℕ → (i : ℕ) → Asked → List ℕ
stored_at calls i a = paste calls (call_numbers * i) (tabulate call_numbers (number_of a)) call_numbers

-- the list in numbers: how many calls, the ending, and each call at its place
pub record Lists (text : List ℕ) (from : ℕ) (calls : List ℕ) (n : ℕ) (ending : Ending) : Type 0 where
  pub number_is : n ≡ length (day_calls text from).calls
  pub ending_is : ending ≡ (day_calls text from).ending
  pub call_at : (i : ℕ) → i < n → asked_at calls i ≡ get_or (day_calls text from).calls i none_asked
