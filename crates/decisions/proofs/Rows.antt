-- A verdict row by row: the first row whose condition holds gives the refusal, and the rows before it are passed over.
-- Assumes nothing.
use Rattle.std.specs.Prelude.{Ok, Err}
use mathlib.Core.Path.{◌≡◌, refl}
use mathlib.Core.Bool.{Bool, true, false}
use mathlib.Core.List.{List, [], ◌∷◌}
use Rattle.ledger.specs.declared.Refusal.{Refusal}
use Rattle.ledger.specs.Answers.{Verdict}
use Rattle.ledger.specs.Calls.{Row, row, verdict}

module _ (r : Refusal) (t : Bool) (xs : List Row) where
  pub first : t ≡ true → Err r ≡ verdict (row r t ∷ xs)
  unfolding verdict
  first e = rw e

  pub later : t ≡ false → {v : Verdict} → v ≡ verdict xs → v ≡ verdict (row r t ∷ xs)
  unfolding verdict
  later e h = rw e h

pub none : Ok tt ≡ verdict []
unfolding verdict
none = refl
