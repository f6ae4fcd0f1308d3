-- The sizes of the book, each named once (01, head and Five items): "One plant, one day, 24 hours, up to eight units", "Five items a unit".
use Rattle.std.specs.Prelude.{ℕ, ◌+◌, ◌*◌}

abbrev pub hours : ℕ
hours = 24

abbrev pub places : ℕ
places = 8

abbrev pub items : ℕ
items = 5

-- an entry for each hour and place, hour by hour
abbrev pub entries : ℕ
entries = hours * places

-- the entry of an hour and a place, both counted from 0: place k is that of unit k + 1
abbrev pub entry_of : ℕ → ℕ → ℕ
entry_of h k = places * h + k
