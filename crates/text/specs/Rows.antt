-- A row says what one kind of line may be. 58 is ':', 44 is ','.
use Rattle.std.specs.Prelude.{ℕ, ◌-◌, true, false, List, [], ◌∷◌, ◌++◌, length, take, drop, replicate}
use Prim.Native.String.{String}
use Rattle.text.specs.Bytes.{bytes}
use Rattle.text.specs.Text.{seek}
use Rattle.text.specs.declared.Row.{Row}
use Rattle.text.specs.declared.Line.{Line}

-- a word as a row holds it: ten bytes, '=' after its last
abbrev pub word : String → List ℕ
word w = bytes w ++ replicate (10 - length (bytes w)) 61

abbrev pub limits : ℕ → ℕ → ℕ → ℕ → List ℕ
limits a b c d = a ∷ b ∷ c ∷ d ∷ []

-- key=number, from low to high
abbrev pub number_row : List ℕ → ℕ → ℕ → Row
number_row key low high =
    record { key = key; word = word ""; blank = false; order = false; parts = 1; most = 1; low = limits low 0 0 0; high = limits high 0 0 0 }

-- the same where the value may be blank
abbrev pub blank_row : List ℕ → ℕ → ℕ → Row
blank_row key low high =
    record { key = key; word = word ""; blank = true; order = false; parts = 1; most = 1; low = limits low 0 0 0; high = limits high 0 0 0 }

-- key=word
abbrev pub word_row : List ℕ → List ℕ → Row
word_row key w = record { key = key; word = w; blank = false; order = false; parts = 0; most = 0; low = limits 0 0 0 0; high = limits 0 0 0 0 }

-- a line that holds nothing
abbrev pub no_line : Line
no_line = record { count = 0; number = replicate 24 0 }

-- the bytes of the part that begins at a place, up to its mark or the end
abbrev pub part_bytes : List ℕ → ℕ → List ℕ
part_bytes s from = take (seek 58 44 (drop from s)) (drop from s)
