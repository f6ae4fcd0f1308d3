-- The arithmetic of a unit's items but the test, in Rial: 01, Five items, sentence by sentence. V(k) and net(P) are of crate energy, the test of charge.
-- The differences of natural numbers below stop at 0, as 01's max(.., 0) says.
use Rattle.std.specs.Prelude.{ℕ, ◌+◌, ◌*◌, ◌-◌, ◌/◌, min, max, Bool, cond, ◌&&◌, ◌||◌, ltb, leb, eqb, ℤ, pos, neg_ℤ, get_or}
use Rattle.finite.specs.Finite.{sum}
use Rattle.energy.specs.declared.GrossKwh.{GrossKwh}
use Rattle.energy.specs.declared.NetKwh.{NetKwh}
use Rattle.energy.specs.Energy.{pay_of}
use Rattle.formulas.specs.declared.Deviations.{Deviations}

-- "`deviation` is split into d2..d7", and 02, wish 1: "d8 joins the split of the deviation": the first kind, and how many there are
abbrev pub first_kind : ℕ
first_kind = 2

abbrev pub kinds : ℕ
kinds = 7

-- what an index past the end reads; the deviation at an index, the first kind's at 0, and that of a kind, in net kWh
abbrev pub no_deviation : NetKwh
no_deviation = record { 0 = 0 }

abbrev pub deviation_at : Deviations → ℕ → NetKwh
deviation_at d j = get_or d.kwh j no_deviation

abbrev pub deviation_of : Deviations → ℕ → NetKwh
deviation_of d kind = deviation_at d (kind - first_kind)

-- of all kinds together
abbrev pub whole_deviation : Deviations → ℕ
whole_deviation d = sum kinds (λ j. (deviation_at d j).0)

-- "Magnitudes are rounded down, items 3 to 5 then negated"
abbrev pub paid : ℕ → ℤ
paid magnitude = pos magnitude

abbrev pub owed : ℕ → ℤ
owed magnitude = neg_ℤ (pos magnitude)

-- "1. Energy: sum of grains times modified price, / 10^7"
unfoldable pub energy_pay : ℕ → ℕ
energy_pay cost = cost / 10000000

-- "2. Availability: V(max(D − gate of commitment, 0))"
unfoldable pub availability : NetKwh → NetKwh → ℕ → ℕ → ℕ
availability declared gate cpf bar = pay_of (record { 0 = declared.0 - gate.0 }) cpf bar

-- whether a day of a month comes no later than another
abbrev pub in_order : ℕ → ℕ → ℕ → ℕ → Bool
in_order month day other_month other_day = ltb month other_month || (eqb month other_month && leb day other_day)

-- "from day 15 of month 3 to day 15 of month 6, both included"
unfoldable pub in_season : ℕ → ℕ → Bool
in_season month day = in_order 3 15 month day && in_order month day 6 15

-- "A = power + min(6% of it rounded down, 6,000) [in the season]; else 3% and 3,000"
unfoldable pub declaration_ceiling : Bool → GrossKwh → GrossKwh
declaration_ceiling season power =
    record { 0 = power.0 + cond season (min (power.0 * 6 / 100) 6000) (min (power.0 * 3 / 100) 3000) }

-- "3. Refund: V(max(D − (real + d5 + d7), D − net(A), 0))": how far the capability falls short of the declaration, how far the
-- declaration is above net(A), and the larger of the two
abbrev pub capability_short : NetKwh → NetKwh → Deviations → ℕ
capability_short declared real d = declared.0 - (real.0 + (deviation_of d 5).0 + (deviation_of d 7).0)

abbrev pub declared_above : NetKwh → NetKwh → ℕ
declared_above declared allowed = declared.0 - allowed.0

unfoldable pub refund_kwh : NetKwh → NetKwh → Deviations → NetKwh → NetKwh
refund_kwh declared real d allowed = record { 0 = max (capability_short declared real d) (declared_above declared allowed) }

unfoldable pub refund : NetKwh → NetKwh → Deviations → NetKwh → ℕ → ℕ → ℕ
refund declared real d allowed cpf bar = pay_of (refund_kwh declared real d allowed) cpf bar

-- "5. Drawn energy ..: max(reverse − net, 0) × ceiling × (10,000 − L) / 10^7"
unfoldable pub drawn_pay : NetKwh → NetKwh → ℕ → ℕ → ℕ
drawn_pay reverse net ceiling loss = (reverse.0 - net.0) * ceiling * (10000 - loss) / 10000000
