-- `all` is the test over the hours: a commitment of 0 exceeds no limit.
use Rattle.std.proofs.Common.{rules, ℕ}
use lib.Dec.{leb}
use lib.ListN.{get_or}
use Rattle.finite.proofs.Chains.{every_range}
use Rattle.sheet.specs.Ranges.{offer_at}
use Rattle.state.specs.Sizes.{hours, entry_of}
use Rattle.state.specs.Book.{no_kwh}
use Rattle.state.specs.Ranges.{limit_of}
use Rattle.state.proofs.place_holds.Goals as goal

pub returns : goal.returns
returns c =
    let a = c.args in
    every_range (λ (h : ℕ). leb (get_or a.commitment.now (entry_of h a.k) no_kwh).0 (limit_of a.member (offer_at a.unit.now h)).0) hours _
    (search rules) c.all.ensures.ran (λ x y q k. search rules)
