-- The lines of a list of calls behind a day sheet, as `replay` reads them: `take=hour:unit:kWh`, `release=hour:unit:kWh`, `move=hour:from:to:kWh`,
-- `void=hour`, `total=unit:item`, and `settle=` or `restate=` with nothing after the `=` and an hour record from the next byte on.
-- 10 is LF; 01's refusals 4, 1 and 2 are those of a line that is no call.
use Rattle.std.specs.Prelude.{ℕ, ◌+◌, cond, List, [], ◌∷◌, length, drop, get_or, false, Option, Some, None, Result, Ok, Err}
use Rattle.std.specs.List.{find}
use Rattle.text.specs.declared.Row.{Row}
use Rattle.text.specs.Text.{seek, before, has, value_part, key_is}
use Rattle.text.specs.Rows.{word, limits}
use Rattle.values.specs.Values.{value_of}
use Rattle.text.specs.declared.Line.{Line}
use Rattle.text.specs.declared.TextFault.{TextFault}
use Rattle.text.specs.declared.TextFault.TheVariants.{NotDue, BadValue, TextEnds}
use Rattle.ledger.specs.declared.Asked.{Asked}
use Rattle.record_end.specs.End.{behind_record}
use Rattle.asks.specs.declared.LineKind.{LineKind}
use Rattle.asks.specs.declared.LineKind.TheVariants.{Take, Release, Move, Settle, Restate, Void, Total}
use Rattle.asks.specs.declared.Asks.{Asks}
use Rattle.asks.specs.declared.Asks.TheVariants.{Call, Total as TotalOf}
use Rattle.asks.specs.declared.Asking.{Asking}

-- the key of a kind of line
abbrev pub key_of : LineKind → List ℕ
key_of Take = word "take"
key_of Release = word "release"
key_of Move = word "move"
key_of Settle = word "settle"
key_of Restate = word "restate"
key_of Void = word "void"
key_of Total = word "total"

abbrev pub kinds : List LineKind
kinds = Take ∷ Release ∷ Move ∷ Settle ∷ Restate ∷ Void ∷ Total ∷ []

-- the kind of a line by its key; none for another key or no `=`
unfoldable pub kind_of : List ℕ → Option LineKind
kind_of line = find (λ kind. key_is line (key_of kind)) kinds

-- how many numbers the value of a call's line has
abbrev pub numbers_of : LineKind → ℕ
numbers_of Take = 3
numbers_of Release = 3
numbers_of Move = 4
numbers_of Settle = 0
numbers_of Restate = 0
numbers_of Void = 1
numbers_of Total = 2

-- the value of a call's line: numbers "of 1 to 9 digits, no leading zero" joined by ':', or nothing
abbrev pub row_with : ℕ → Row
row_with n =
    record {
      key = word "";
      word = word "";
      blank = false;
      order = false;
      parts = n;
      most = n;
      low = limits 0 0 0 0;
      high = limits 999999999 999999999 999999999 999999999;
    }

abbrev pub row_of : LineKind → Row
row_of kind = row_with (numbers_of kind)

-- a call of a line by the numbers of its value; a record starts behind the line
abbrev pub asked_of : (kind : ℕ) → List ℕ → (kwh start size : ℕ) → Asked
asked_of kind number kwh start size =
    record {
      kind = kind;
      hour = get_or number 0 0;
      unit = get_or number 1 0;
      to = get_or number 2 0;
      kwh = kwh;
      begin = 0;
      end = size;
      start = start;
    }

-- what a line asks for: a call, whose kWh is its last number, or the total of a unit and an item
abbrev pub asks_of : LineKind → List ℕ → (start size : ℕ) → Asks
asks_of Take number start size = Call (asked_of 1 number (get_or number 2 0) start size)
asks_of Release number start size = Call (asked_of 2 number (get_or number 2 0) start size)
asks_of Move number start size = Call (asked_of 3 number (get_or number 3 0) start size)
asks_of Settle number start size = Call (asked_of 4 number (get_or number 2 0) start size)
asks_of Restate number start size = Call (asked_of 5 number (get_or number 2 0) start size)
asks_of Void number start size = Call (asked_of 6 number (get_or number 2 0) start size)
asks_of Total number start size = TotalOf (get_or number 0 0) (get_or number 1 0)

-- where the next call's line begins: behind the line, and behind the record of a settle or a restate
abbrev pub next_of : List ℕ → LineKind → (after : ℕ) → ℕ
next_of text Take after = after
next_of text Release after = after
next_of text Move after = after
next_of text Settle after = behind_record text after
next_of text Restate after = behind_record text after
next_of text Void after = after
next_of text Total after = after

-- what a line of a kind asks, whose LF stands at a place
abbrev pub asking_of : List ℕ → LineKind → List ℕ → (lf : ℕ) → Asking
asking_of text kind number lf = record { asked = asks_of kind number (lf + 1) (length text); next = next_of text kind (lf + 1) }

-- what a line of a kind asks, by its value
abbrev pub asking_by : List ℕ → LineKind → (lf : ℕ) → Result Line TextFault → Result Asking TextFault
asking_by text kind lf (Ok l) = Ok (asking_of text kind l.number lf)
asking_by text kind lf (Err f) = Err BadValue

-- what a line asks, by its kind
abbrev pub line_asking : List ℕ → (line : List ℕ) → (lf : ℕ) → Option LineKind → Result Asking TextFault
line_asking text line lf (Some kind) = asking_by text kind lf (value_of (row_of kind) (value_part line))
line_asking text line lf None = Err NotDue

-- what the line at a place asks: "4 for no LF, 1 for no `=` or another key, 2 for a malformed value"
unfoldable pub asking_at : List ℕ → ℕ → Result Asking TextFault
asking_at text at =
    let rest = drop at text in
    let line = before 10 rest in
    cond (has 10 rest) (line_asking text line (at + seek 10 10 rest) (kind_of line)) (Err TextEnds)
