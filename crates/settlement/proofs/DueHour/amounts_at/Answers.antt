-- What a unit of the plant goes by is in its ranges.
-- Assumes nothing.
use Rattle.std.proofs.Common.{rules, ◌≡◌, true}
use Rattle.units.specs.Units.{member_at}
use Rattle.settlement.proofs.DueHour.amounts_at.Goals as goal

pub invariant_of-its : goal.invariant_of-its
invariant_of-its c =
    let s = c.args.self.now in
    let m : member_at s.day.now.units c.args.k ≡ true = search rules in
    record { rated = s.in_range.rates; ready = s.in_range.unit c.args.k m c.args.energy c.requires }
