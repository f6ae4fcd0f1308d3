-- Each item is the number at its place, five to an entry.
-- Assumes nothing.
use Rattle.std.proofs.Common.{rules, ◌+◌, ◌*◌, get_or}
use lib.IntN.{pos}
use Rattle.finite.proofs.Chains.{tabulate_from_fn}
use Rattle.state.specs.Sizes.{items}
use Rattle.state.proofs.amounts_by.Goals as goal

pub returns : goal.returns
returns c =
    let a = c.args in
    let s = tabulate_from_fn (λ i. get_or a.amounts.now (items * a.j + i) (pos 0)) _ _ c.from_fn.ensures.items (λ i y q l k. search rules) in
    λ i. record { item = s i }
