-- The reading of each place is the definition's.
-- Assumes nothing.
use Rattle.std.proofs.Common.{rules, ℕ}
use Rattle.finite.proofs.Chains.{tabulate_from_fn}
use Rattle.energy.specs.declared.NetKwh.{NetKwh}
use Rattle.record.specs.declared.Record.{Record}
use Rattle.readings.specs.Readings.{place_reading}
use Rattle.readings.proofs.readings_of.Goals as goal

abbrev reading : Record → ℕ → ℕ → NetKwh
reading r units k = record { 0 = place_reading r units k }

pub returns : goal.returns
returns c = tabulate_from_fn (reading c.args.hour.now c.args.units) _ _ c.from_fn.ensures.items (λ i y q l k. search rules)
