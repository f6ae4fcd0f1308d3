-- Refusal 33, as a test of a unit (01, Book and journal). It holds where the unit is not refused.
use Rattle.std.specs.Prelude.{ℕ, ◌+◌, Bool, not, ◌&&◌, ltb, eqb}
use Rattle.finite.specs.Finite.{every}
use Rattle.record.specs.declared.UnitRecord.{UnitRecord}
use Rattle.formulas.specs.Items.{first_kind, kinds}
use Rattle.deviation.specs.Deviation.{proportion}

-- "all proportions 0", of the kinds that `deviation` is split into
unfoldable pub no_proportion : ℕ → UnitRecord → Bool
no_proportion own u = every kinds (λ j. eqb (proportion own u (first_kind + j)) 0)

-- 33: "deviation over 0, all proportions 0", of a unit
unfoldable pub unit_proportioned : ℕ → UnitRecord → Bool
unit_proportioned own u = not (ltb 0 u.deviation.0 && no_proportion own u)
