-- A take, release or move on the book.
use Rattle.std.specs.Prelude.{ℕ, ◌+◌, ◌-◌, ◌/◌, ◌%◌, eqb, get_or, set, Ok, Err}
use Rattle.sheet.specs.declared.Sheet.{Sheet}
use Rattle.state.specs.declared.Book.{Book}
use Rattle.state.specs.Sizes.{places}
use Rattle.state.specs.Book.{no_kwh, mark_at, settled_mark}
use Rattle.state.specs.Ranges.{limit_at}
use Rattle.ledger.specs.Answers.{Answer, Verdict}
use Rattle.ledger.specs.declared.Effect.TheVariants.{Committed}
use Rattle.ledger.specs.Calls.{verdict}
use Rattle.decisions.specs.declared.CommitmentChange.{CommitmentChange}
use Rattle.decisions.specs.Changes.{hour_index, entry_index, change_tests}

-- the commitment of an entry, in kWh, and a book with another one
abbrev pub kwh_in : Book → ℕ → ℕ
kwh_in b j = (get_or b.commitment j no_kwh).0

abbrev pub with_kwh : Book → ℕ → ℕ → Book
with_kwh b j kwh = record { commitment = set b.commitment j (record { 0 = kwh }); mark = b.mark; energy = b.energy; amounts = b.amounts }

-- 01, Book and journal: "take adds its kWh, release subtracts them, move does both": what is given goes off one entry, then what comes is added to
-- the other
abbrev pub shifted : Book → (from to out into : ℕ) → Book
shifted b from to out into =
    let given = with_kwh b from (kwh_in b from - out) in
    with_kwh given to (kwh_in given to + into)

-- the book and the answer. "A call with a listed condition (..) gets the refusal of the first one checked (..) and changes nothing"
pub record Changed : Type 0 where
  pub book : Book
  pub answer : Answer

abbrev pub changed_by : Verdict → Book → (from to out into : ℕ) → Changed
changed_by (Ok tt) b from to out into = record { book = shifted b from to out into; answer = Ok Committed }
changed_by (Err r) b from to out into = record { book = b; answer = Err r }

-- the conditions of the table, by the hour's mark, the commitments of the units that give and get, and the latter's last offer quantity
abbrev pub verdict_in : Sheet → Book → CommitmentChange → Verdict
verdict_in s b x =
    let to = entry_index x.hour x.to in
    verdict
    (change_tests s.units x (eqb (mark_at b (hour_index x.hour)) settled_mark) (kwh_in b (entry_index x.hour x.from)) (kwh_in b to)
    (limit_at s (to / places) (to % places)).0)

-- a take, release or move on the book
unfoldable pub changed_in : Sheet → Book → CommitmentChange → Changed
changed_in s b x = changed_by (verdict_in s b x) b (entry_index x.hour x.from) (entry_index x.hour x.to) x.out.0 x.into.0
