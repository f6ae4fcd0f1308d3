-- The calls of a text: how many there are before its end or the first line that is no call, and the number of a line.
use Rattle.std.specs.Prelude.{ℕ, zero, suc, ◌+◌, cond, List, ltb, eqb, length, take, Option, Some, None, Result, Ok, Err}
use Rattle.std.specs.List.{count_by}
use Rattle.text.specs.declared.TextFault.{TextFault}
use Rattle.lines.specs.declared.TextRefusal.{TextRefusal}
use Rattle.asks.specs.declared.Asking.{Asking}
use Rattle.asks.specs.declared.Extent.{Extent}
use Rattle.asks.specs.Asks.{asking_at}

-- how many LF stand in a text
unfoldable pub line_ends : List ℕ → ℕ
line_ends text = count_by (λ x. eqb x 10) text

-- "N counts the lines of the whole text from 1"
abbrev pub line_number : List ℕ → ℕ → ℕ
line_number text at = line_ends (take at text) + 1

-- so many calls more in front
abbrev pub counted : ℕ → Extent → Extent
counted n e = record { calls = n + e.calls; stop = e.stop }

abbrev pub stop_at : Option TextRefusal → Extent
stop_at stop = record { calls = 0; stop = stop }

-- the calls from a line on: a call and those behind it, or the stop at a line that is no call
abbrev pub extent_from : (ℕ → Extent) → List ℕ → ℕ → Result Asking TextFault → Extent
extent_from further text at (Ok a) = counted 1 (further a.next)
extent_from further text at (Err f) = stop_at (Some (record { fault = f; line = line_number text at }))

-- the calls from a place on; each takes a byte at least, so that there are no more of them than bytes: `extent_is` (proofs/ExtentEnds.antt) says it
-- without a count
unfoldable pub extent_by : (left : ℕ) → List ℕ → ℕ → Extent
extent_by zero text at = stop_at None
extent_by (suc left) text at = cond (ltb at (length text)) (extent_from (extent_by left text) text at (asking_at text at)) (stop_at None)

abbrev pub extent_of : List ℕ → ℕ → Extent
extent_of text at = extent_by (length text) text at
