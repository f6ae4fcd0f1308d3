-- The settled hours are those of the statement with the word in front of each line.
-- Assumes nothing.
use mathlib.Core.Path.{◌≡◌, refl}
use Prim.Native.Nat.{ℕ}
use Rattle.text.specs.Bytes.{bytes}
use Rattle.state.specs.declared.Book.{Book}
use Rattle.listing.specs.Listing.{line_behind, hour_behind, settled_behind}
use Rattle.entries.specs.Tables.{settled_line, settled_units, settled_hour, settled_hours}

pub all_settled : (units : ℕ) (b : Book) → settled_behind (bytes "settled ") units b ≡ settled_hours units b
unfolding settled_behind hour_behind line_behind settled_hours settled_hour settled_units settled_line
all_settled units b = refl
