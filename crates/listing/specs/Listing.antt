-- What the statement prints (01, Program and marked figures), as bytes: 10 is LF, 32 a space.
use Rattle.std.specs.Prelude.{ℕ, zero, suc, ◌+◌, ◌*◌, ◌/◌, ◌%◌, cond, ◌&&◌, List, [], ◌∷◌, ◌++◌, eqb, get_or}
use Rattle.decimal.specs.Decimal.{digits, signed, most_number}
use Rattle.text.specs.Bytes.{bytes}
use Rattle.units.specs.Units.{member_at}
use Rattle.energy.specs.declared.HubGrains.{HubGrains}
use Rattle.settlement.specs.declared.Amounts.{Amounts}
use Rattle.state.specs.declared.Book.{Book}
use Rattle.state.specs.Sizes.{hours, places, items}
use Rattle.state.specs.Book.{no_grains, past_amounts, mark_at, energy_at, amounts_at, item_of, settled_mark}

-- the most bytes that a field, a line, an hour and a whole statement have, as numbers are machine words
abbrev pub most_field : ℕ
most_field = most_number + 1

abbrev pub most_line : ℕ
most_line = most_number + (2 + items) * most_field + 1

abbrev pub most_hour : ℕ
most_hour = places * most_line

abbrev pub most_bytes : ℕ
most_bytes = hours * most_hour

-- the bytes f 0, f 1, .., f (n - 1), one after the other
unfoldable pub joined : ℕ → (ℕ → List ℕ) → List ℕ
joined zero f = []
joined (suc n) f = joined n f ++ f n

-- a field behind the first one of its line: fields are parted by one space
abbrev pub number_field : ℕ → List ℕ
number_field n = 32 ∷ digits n

unfoldable pub item_field : Amounts → ℕ → List ℕ
item_field a i = 32 ∷ signed (item_of a i)

-- "Fields: hour, unit, grains, items 1–5"; "Each line ends in LF."
unfoldable pub unit_line : (hour unit grains : ℕ) → Amounts → List ℕ
unit_line hour unit grains a = digits hour ++ (number_field unit ++ (number_field grains ++ (joined items (item_field a) ++ (10 ∷ []))))

-- "a line per unit": the plant's units ascending; place k is that of unit k + 1, hour h that of hour h + 1
unfoldable pub line_of : (units h k : ℕ) → HubGrains → Amounts → List ℕ
line_of units h k grains a = cond (member_at units k) (unit_line (h + 1) (k + 1) grains.0 a) []

abbrev pub place_line : (units : ℕ) → Book → (h k : ℕ) → List ℕ
place_line units b h k = line_of units h k (energy_at b h k) (amounts_at b h k)

-- "it prints settled hours ascending"
unfoldable pub hour_lines : (units : ℕ) → Book → (h : ℕ) → List ℕ
hour_lines units b h = cond (eqb (mark_at b h) settled_mark) (joined places (place_line units b h)) []

unfoldable pub settled_lines : (units : ℕ) → Book → List ℕ
settled_lines units b = joined hours (hour_lines units b)

-- the settled hours with the same bytes in front of each line; `none_in_front` (proofs/Entries.antt) says that without any they are `settled_lines`
unfoldable pub line_behind : (front : List ℕ) → (units : ℕ) → Book → (h k : ℕ) → List ℕ
line_behind front units b h k = cond (member_at units k) (front ++ unit_line (h + 1) (k + 1) (energy_at b h k).0 (amounts_at b h k)) []

unfoldable pub hour_behind : (front : List ℕ) → (units : ℕ) → Book → (h : ℕ) → List ℕ
hour_behind front units b h = cond (eqb (mark_at b h) settled_mark) (joined places (line_behind front units b h)) []

unfoldable pub settled_behind : (front : List ℕ) → (units : ℕ) → Book → List ℕ
settled_behind front units b = joined hours (hour_behind front units b)

-- for the code: the same line by line, that of entry e being of hour e / 8 and place e % 8
abbrev pub entry_line : (front : List ℕ) → (units : ℕ) → Book → (e : ℕ) → List ℕ
entry_line front units b e =
    cond (eqb (mark_at b (e / 8)) settled_mark && member_at units (e % 8))
    (front ++ unit_line (e / 8 + 1) (e % 8 + 1) (get_or b.energy e no_grains).0 (get_or b.amounts e past_amounts)) []

-- "on the first refusal it prints only `refused=` and the number"
unfoldable pub refusal_line : ℕ → List ℕ
refusal_line number = bytes "refused=" ++ (digits number ++ (10 ∷ []))
