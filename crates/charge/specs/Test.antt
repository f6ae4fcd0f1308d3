-- Item 4, the test, in Rial: 01, Five items, sentence by sentence. The differences of natural numbers below stop at 0, as 01's max(.., 0) says.
use Rattle.std.specs.Prelude.{ℕ, ◌+◌, ◌*◌, ◌-◌, ◌/◌, ◌^◌, ◌≤◌, ◌<◌, min, Bool, true, false, cond, ◌&&◌, ◌||◌, Option, Some, None, List, [], ◌∷◌, ltb, eqb, get_or}
use Rattle.finite.specs.Finite.{sum}
use Rattle.energy.specs.declared.NetKwh.{NetKwh}
use Rattle.energy.specs.declared.HubGrains.{HubGrains}
use Rattle.formulas.specs.declared.Deviations.{Deviations}
use Rattle.formulas.specs.Items.{kinds, deviation_at, deviation_of}
use Rattle.charge.specs.declared.KindWeight.{KindWeight}

-- "4. Test: .. q = d2 + d3 + (1 − repair) × d6. .. W = 10 d2 + 5 d3 + 10 (1 − repair) d6"; 02, wish 1: "q gains d8 and W gains 3 × d8". First
-- as they are written there, then by a table of the kinds; `counted_is` and `weighted_is` (proofs/Weights.antt) say that both are the same
abbrev pub written_q : Deviations → ℕ → ℕ
written_q d repair = (deviation_of d 2).0 + (deviation_of d 3).0 + (1 - repair) * (deviation_of d 6).0 + (deviation_of d 8).0

abbrev pub written_w : Deviations → ℕ → ℕ
written_w d repair = 10 * (deviation_of d 2).0 + 5 * (deviation_of d 3).0 + 10 * ((1 - repair) * (deviation_of d 6).0) + 3 * (deviation_of d 8).0

-- the kinds 2 to 8, a row for each: the tenths of its deviation that W takes, and whether `repair` exempts it
unfoldable pub kind_weights : List KindWeight
kind_weights =
    record { tenths = 10; exempt = false }
    ∷ record { tenths = 5; exempt = false }
    ∷ record { tenths = 0; exempt = false }
    ∷ record { tenths = 0; exempt = false }
    ∷ record { tenths = 10; exempt = true }
    ∷ record { tenths = 0; exempt = false }
    ∷ record { tenths = 3; exempt = false }
    ∷ []

unfoldable pub kind_weight : ℕ → KindWeight
kind_weight j = get_or kind_weights j (record { tenths = 0; exempt = false })

-- what counts of a deviation: "(1 − repair) × d6" where `repair` exempts its kind, else all
unfoldable pub counted_at : Deviations → ℕ → ℕ → ℕ
counted_at d repair j = cond (kind_weight j).exempt ((1 - repair) * (deviation_at d j).0) (deviation_at d j).0

-- q: what counts of the kinds that have a weight
abbrev pub counted_part : Deviations → ℕ → ℕ → ℕ
counted_part d repair j = cond (eqb (kind_weight j).tenths 0) 0 (counted_at d repair j)

unfoldable pub counted_deviation : Deviations → ℕ → NetKwh
counted_deviation d repair = record { 0 = sum kinds (counted_part d repair) }

-- "Charged exactly if q > 2,000 or 20 × q > reading (unmeasured: the unit's hub energy over 10,000 − L, compared exactly)":
-- the energy over 10,000 − L is below 20 × q exactly where the energy is below 20 × q × (10,000 − L)
abbrev pub over_reading : NetKwh → Option NetKwh → HubGrains → ℕ → Bool
over_reading q (Some reading) energy loss = ltb reading.0 (20 * q.0)
over_reading q None energy loss = ltb energy.0 (20 * q.0 * (10000 - loss))

unfoldable pub is_charged : NetKwh → Option NetKwh → HubGrains → ℕ → Bool
is_charged q reading energy loss = ltb 2000 q.0 || over_reading q reading energy loss

-- W: what counts of each kind, times its weight
abbrev pub weighted_part : Deviations → ℕ → ℕ → ℕ
weighted_part d repair j = counted_at d repair j * (kind_weight j).tenths

unfoldable pub weighted : Deviations → ℕ → ℕ
weighted d repair = sum kinds (weighted_part d repair)

-- for the code: the same of one kind, by whether `repair` is over 0; `q_same` and `w_same` (proofs/Weights.antt) say so
abbrev pub counted_of : KindWeight → NetKwh → Bool → ℕ
counted_of kind deviation repaired = cond (kind.exempt && repaired) 0 deviation.0

abbrev pub in_q : KindWeight → NetKwh → Bool → ℕ
in_q kind deviation repaired = cond (eqb kind.tenths 0) 0 (counted_of kind deviation repaired)

abbrev pub in_w : KindWeight → NetKwh → Bool → ℕ
in_w kind deviation repaired = counted_of kind deviation repaired * kind.tenths

abbrev pub q_part : Deviations → Bool → ℕ → ℕ
q_part d repaired j = in_q (kind_weight j) (deviation_at d j) repaired

abbrev pub w_part : Deviations → Bool → ℕ → ℕ
w_part d repaired j = in_w (kind_weight j) (deviation_at d j) repaired

-- "b = W × 125 × cpf × bar / 10^9 down"
unfoldable pub base_charge : ℕ → ℕ → ℕ → ℕ
base_charge w cpf bar = w * 125 * cpf * bar / 1000000000

-- "n = min(since − 1, 24)"
unfoldable pub hours_counted : ℕ → ℕ
hours_counted since = min (since - 1) 24

-- "t(n) = 10^8 × 1.05^n down"; 1.05 is 21 / 20
unfoldable pub growth : ℕ → ℕ
growth n = 100000000 * 21 ^ n / 20 ^ n

-- "charge = b × t(n) / 10^8 down"
unfoldable pub charge_of : ℕ → ℕ → ℕ → ℕ → ℕ
charge_of w since cpf bar = base_charge w cpf bar * growth (hours_counted since) / 100000000

-- "Where charged, it never exceeds the exact product W × 125 × cpf × bar × 21^n / (10^9 × 20^n) and falls short of it by under 130 Rial"
pub record NearExact (w cpf bar n charge : ℕ) : Type 0 where
  pub not_over : charge * (1000000000 * 20 ^ n) ≤ w * 125 * cpf * bar * 21 ^ n
  pub under_130 : w * 125 * cpf * bar * 21 ^ n < (charge + 130) * (1000000000 * 20 ^ n)
