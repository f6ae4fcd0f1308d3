-- The split of a unit's deviation by kinds (01, Five items, 4).
use Rattle.std.specs.Prelude.{ℕ, ◌+◌, ◌*◌, ◌-◌, ◌≤◌, cond, List, eqb, get_or}
use Rattle.finite.specs.Finite.{sum, tabulate}
use Rattle.energy.specs.declared.NetKwh.{NetKwh}
use Rattle.energy.specs.Energy.{net_of}
use Rattle.apportion.specs.Shares.{shares}
use Rattle.record.specs.declared.Span.{Span}
use Rattle.record.specs.declared.UnitRecord.{UnitRecord}
use Rattle.record.specs.Spans.{counted_kind, span_at, span_count}
use Rattle.formulas.specs.declared.Deviations.{Deviations}
use Rattle.formulas.specs.Items.{first_kind, kinds, whole_deviation}

-- "max(test − net(capability), 0) × minutes"
unfoldable pub short_minutes : ℕ → NetKwh → Span → ℕ
short_minutes own test s = (test.0 - (net_of s.capability own).0) * s.minutes

-- what a span adds to a kind's sum: nothing to one that it does not count as
abbrev pub counted_as : ℕ → NetKwh → ℕ → Span → ℕ
counted_as own test kind s = cond (eqb (counted_kind s) kind) (short_minutes own test s) 0

-- "the sum, over the spans counted as that kind, of max(test − net(capability), 0) × minutes"
unfoldable pub proportion : ℕ → UnitRecord → ℕ → ℕ
proportion own u kind = sum (span_count u) (λ i. counted_as own u.test kind (span_at u i))

-- of each kind that `deviation` is split into, the lowest first
unfoldable pub proportions : ℕ → UnitRecord → List ℕ
proportions own u = tabulate kinds (λ j. proportion own u (first_kind + j))

-- shares of net kWh, which are numbers (crate apportion), one for each kind
abbrev pub deviations_by : List ℕ → Deviations
deviations_by numbers = record { kwh = tabulate kinds (λ j. record { 0 = get_or numbers j 0 }) }

-- "`deviation` is split into d2..d7 in proportion to [these sums], by largest remainder (deviation 0: all 0), lower kind first" (crate
-- apportion: 0 has shares of 0); 02, wish 1: "d8 joins the split of the deviation"
unfoldable pub deviations_of : ℕ → UnitRecord → Deviations
deviations_of own u = deviations_by (shares (proportions own u) u.deviation.0)

-- what the code rests on: a split of at most 10^6 kWh
abbrev pub SplitReady : Deviations → Type 0
SplitReady d = whole_deviation d ≤ 1000000
