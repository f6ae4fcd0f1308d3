-- As many bytes as the number has.
-- Assumes nothing.
use mathlib.Core.Path.{◌≡◌}
use native.Mathlib.Omega.{arith}
use Rattle.decimal.specs.Output.{written}
use Rattle.decimal.specs.Writer.{held}
use Rattle.decimal.specs.Decimal.{digits}
use Rattle.decimal.proofs.Laws.{written_append, digits_hundreds}
use Rattle.decimal.proofs.Lengths.{place_most, digits_most}
use Rattle.decimal.proofs.Writer.+put_number.Goals as goal

pub returns-else-n-lt100-clause-upper_bound : goal.returns-else-n-lt100-clause-upper_bound
returns-else-n-lt100-clause-upper_bound t c =
    let g = c.args in
    let e : held c.put_two-else-n-lt100.new.self ≡ written (held g.self.now) (digits g.n) = grind (arith, written_append, digits_hundreds) in
    place_most _ _ (digits g.n) 20 e (digits_most g.n (omega arith))
