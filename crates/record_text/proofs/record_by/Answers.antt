-- The units are made by index; each other field is its line.
-- Assumes nothing.
use Rattle.std.proofs.Common.{rules}
use mathlib.Core.Path.{◌≡◌}
use Rattle.finite.specs.Finite.{tabulate}
use Rattle.finite.proofs.Chains.{tabulate_from_fn}
use Rattle.lines.specs.Cells.{line_in}
use Rattle.lines.specs.Lines.{number_of}
use Rattle.blanks.specs.Blanks.{place_by}
use Rattle.record_text.specs.Hour.{record_by}
use Rattle.record_text.proofs.record_by.Goals as goal

pub returns : goal.returns
unfolding record_by
returns c =
    let g = c.args in
    let f = line_in g.kept.now in
    let unit : c.from_fn.result ≡ tabulate 8 (place_by f g.units g.monthly) =
    tabulate_from_fn (place_by f g.units g.monthly) _ _ c.from_fn.ensures.items (λ i y q l k. search rules) in
    λ i. record { hour = number_of (f 0); net = record { 0 = c.value_or.ensures i }; reverse = record { 0 = c.value_or-2.ensures i }; unit = unit i }
