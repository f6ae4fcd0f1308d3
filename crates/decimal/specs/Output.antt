-- A lent buffer, written byte by byte from a place on.
use Rattle.std.specs.Prelude.{ℕ, ◌+◌, min, cond, List, [], ◌∷◌, ◌++◌, ltb, length, set, take, drop}

-- the buffer, and the place where the next byte goes
pub record Output : Type 0 where
  pub buffer : List ℕ
  pub place : ℕ

abbrev pub output : List ℕ → ℕ → Output
output buffer place = record { buffer = buffer; place = place }

-- one byte more; where there is no room for it, the buffer and the place stay
unfoldable pub with_byte : Output → ℕ → Output
with_byte o b = cond (ltb o.place (length o.buffer)) (output (set o.buffer o.place b) (o.place + 1)) o

-- bytes one after the other
unfoldable pub written : Output → List ℕ → Output
written o [] = o
written o (b ∷ bs) = written (with_byte o b) bs

-- a buffer with bytes written from its start on: as many as it has room for; what stands behind them stays
abbrev pub filled : List ℕ → List ℕ → Output
filled buffer bs = output (take (length buffer) bs ++ drop (length bs) buffer) (min (length bs) (length buffer))
