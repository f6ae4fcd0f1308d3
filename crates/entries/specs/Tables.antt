-- The tables that `replay` prints at the end of the text. Hours and places are counted from 0 here: place k is that of unit k + 1.
use Rattle.std.specs.Prelude.{ℕ, ◌+◌, cond, List, [], ◌∷◌, ◌++◌, eqb, Ok, Err}
use Rattle.text.specs.Bytes.{bytes}
use Rattle.energy.specs.declared.HubKwh.{HubKwh}
use Rattle.units.specs.Units.{member_at}
use Rattle.state.specs.declared.Book.{Book}
use Rattle.state.specs.Sizes.{hours, places}
use Rattle.state.specs.Book.{commitment_at, mark_at, energy_at, amounts_at, settled_mark}
use Rattle.listing.specs.Listing.{joined, unit_line}
use Rattle.ledger.specs.Answers.{TotalAnswer}
use Rattle.entries.specs.Entries.{field, amount_field}

-- "`commitment HOUR UNIT KWH` for each that is over 0, hour then unit ascending"
unfoldable pub held_line : (h k : ℕ) → HubKwh → List ℕ
held_line h k held =
    cond (eqb held.0 0) [] (bytes "commitment" ++ (field (h + 1) ++ (field (k + 1) ++ (field held.0 ++ (10 ∷ [])))))

abbrev pub commitment_line : Book → (h k : ℕ) → List ℕ
commitment_line b h k = held_line h k (commitment_at b h k)

unfoldable pub hour_commitments : Book → (h : ℕ) → List ℕ
hour_commitments b h = joined places (commitment_line b h)

unfoldable pub commitment_lines : Book → List ℕ
commitment_lines b = joined hours (hour_commitments b)

-- "`settled HOUR UNIT GRAINS ITEM1 .. ITEM5` for each settled hour and each unit of the plant"
unfoldable pub settled_line : (units : ℕ) → Book → (h k : ℕ) → List ℕ
settled_line units b h k = cond (member_at units k) (bytes "settled " ++ unit_line (h + 1) (k + 1) (energy_at b h k).0 (amounts_at b h k)) []

unfoldable pub settled_units : (units : ℕ) → Book → (h : ℕ) → List ℕ
settled_units units b h = joined places (settled_line units b h)

unfoldable pub settled_hour : (units : ℕ) → Book → (h : ℕ) → List ℕ
settled_hour units b h = cond (eqb (mark_at b h) settled_mark) (settled_units units b h) []

unfoldable pub settled_hours : (units : ℕ) → Book → List ℕ
settled_hours units b = joined hours (settled_hour units b)

unfoldable pub tables : (units : ℕ) → Book → List ℕ
tables units b = commitment_lines b ++ settled_hours units b

-- "`total UNIT ITEM RIAL` for each unit of the plant and item": a unit that is not in the plant has no total
unfoldable pub total_line : (unit item : ℕ) → TotalAnswer → List ℕ
total_line unit item (Ok sum) = bytes "total" ++ (field unit ++ (field item ++ (amount_field sum ++ (10 ∷ []))))
total_line unit item (Err r) = []
