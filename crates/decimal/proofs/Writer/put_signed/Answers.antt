-- As many bytes as the number has.
-- Assumes nothing.
use mathlib.Core.Path.{◌≡◌}
use native.Mathlib.Omega.{arith}
use Rattle.decimal.specs.Output.{written}
use Rattle.decimal.specs.Writer.{held}
use Rattle.decimal.specs.Decimal.{signed}
use Rattle.decimal.proofs.Laws.{written_append}
use Rattle.decimal.proofs.Signs.{signed_below, signed_above}
use Rattle.decimal.proofs.Lengths.{place_most, signed_most}
use Rattle.decimal.proofs.Writer.put_signed.Goals as goal

pub returns-clause-upper_bound : goal.returns-clause-upper_bound
returns-clause-upper_bound c =
    let g = c.args in
    let e : held c.put_number.new.self ≡ written (held g.self.now) (signed g.z) = grind (arith, written_append, signed_below, signed_above) in
    place_most _ _ (signed g.z) 20 e (signed_most g.z c.ranges.z.sfits)
