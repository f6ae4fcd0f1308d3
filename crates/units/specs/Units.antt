-- The plant's units, by the mask of the sheet (01, Energies and sheet).
use Rattle.std.specs.Prelude.{ℕ, ◌+◌, ◌-◌, ◌/◌, ◌%◌, ◌^◌, Bool, ◌&&◌, leb, eqb}
use Rattle.std.specs.Int.Count.{ones}
use Rattle.finite.specs.Finite.{sum}

-- bit k of m, 0 or 1
abbrev pub bit : ℕ → ℕ → ℕ
bit m k = m / 2 ^ k % 2

-- 01, Energies and sheet: bit n − 1 of `units` stands for unit n, of up to eight units
unfoldable pub is_member : ℕ → ℕ → Bool
is_member units n = (leb 1 n && leb n 8) && eqb (bit units (n - 1)) 1

-- place k, from 0, is that of unit k + 1
unfoldable pub member_at : ℕ → ℕ → Bool
member_at units k = is_member units (k + 1)

-- 01, Energies and sheet: the number of units is the number of ones in it
abbrev pub unit_count : ℕ → ℕ
unit_count units = ones units

-- how many of the units at the places below n are in the plant
unfoldable pub members : ℕ → ℕ → ℕ
members units n = sum n (bit units)

-- 01, Five items, 5: the lowest-numbered unit
unfoldable pub is_lowest : ℕ → ℕ → Bool
is_lowest units k = member_at units k && eqb (members units k) 0
