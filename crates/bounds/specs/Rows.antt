-- The bounds of 9 and 12 (01, table of refusals; Energies and sheet) as the rows of a table, and what makes a row right: accepted at
-- a bound, refused with the row's number one past it.
use Rattle.std.specs.Prelude.{Bool, true, ◌&&◌, List, [], ◌∷◌, ◌++◌, ℕ, zero, suc, ◌+◌, eqb, ℤ, pos, neg_ℤ}
use Rattle.bounds.specs.Given.{Given, refusal, Free, good, month, day_of, loss, ceiling, bar, cpf, units, own, nominal, monthly, steps, quantity, price, commitment, commitment_under, mark, energy, amount, count_in, first_posted, last_posted, uncounted, both_broken}

pub data Row : Type 0 where
  -- refused with this number; 0: accepted
  gives : (number : ℕ) → (Free → Given) → Row
  -- accepted from low to high; the number is that of the refusal past them
  range : (number : ℕ) → (Free → ℕ → Given) → (low high : ℕ) → Row
  -- the most that is accepted, the good value being 0; and with either sign
  up_to : (number : ℕ) → (Free → ℕ → Given) → (most : ℕ) → Row
  within : (number : ℕ) → (Free → ℤ → Given) → (most : ℕ) → Row

unfoldable pub gave : ℕ → Given → Bool
gave number g = eqb (refusal g) number

-- one less than a bound is refused; there is nothing less than 0
unfoldable pub refused_below : Free → ℕ → (Free → ℕ → Given) → ℕ → Bool
refused_below free number value zero = true
refused_below free number value (suc n) = gave number (value free n)

unfoldable pub right : Free → Row → Bool
right free (gives number g) = gave number (g free)
right free (range number value low high) =
    (gave 0 (value free low) && refused_below free number value low)
    && (gave 0 (value free high) && gave number (value free (high + 1)))
right free (up_to number value most) = gave 0 (value free most) && gave number (value free (most + 1))
right free (within number value most) =
    (gave 0 (value free (pos most)) && gave number (value free (pos (most + 1))))
    && (gave 0 (value free (neg_ℤ (pos most))) && gave number (value free (neg_ℤ (pos (most + 1)))))

unfoldable pub all_right : Free → List Row → Bool
all_right free [] = true
all_right free (r ∷ rs) = right free r && all_right free rs

-- "`month` 1–12, `day` (to 31 in months 1–6, to 30 after ..), `loss` L, `ceiling` Rial/MWh 0–10^7, `bar` Rial/MW 0–10^6, `cpf` 24 lines
-- in thousandths 0–10,000, `units` 1–255"
unfoldable pub head_rows : List Row
head_rows =
    range 9 month 1 12
    ∷ range 9 (day_of 1) 1 31
    ∷ range 9 (day_of 6) 1 31
    ∷ range 9 (day_of 7) 1 30
    ∷ range 9 (day_of 12) 1 30
    ∷ range 9 loss 0 2000
    ∷ range 9 ceiling 0 10000000
    ∷ range 9 bar 0 1000000
    ∷ range 9 (cpf 1) 0 10000
    ∷ range 9 (cpf 24) 0 10000
    ∷ range 9 units 1 255
    ∷ []

-- "per unit ascending `own` ρ, `nominal` 1–10^6 kWh, `monthly` 0–10^6 kWh gross"
unfoldable pub unit_rows : List Row
unit_rows =
    range 9 (own 1) 0 2000
    ∷ range 9 (own 8) 0 2000
    ∷ range 9 (nominal 1) 1 1000000
    ∷ range 9 (nominal 8) 1 1000000
    ∷ range 9 (monthly 1) 0 1000000
    ∷ range 9 (monthly 8) 0 1000000
    ∷ []

-- "An offer is 1 to 10 pairs ..: cumulative hub kWh 1–10^6, strictly rising; Rial/MWh 0–10^7, never falling": of a unit's ten steps
-- 10:100 to 100:1000 in an hour
unfoldable pub offer_rows : (hour unit : ℕ) → List Row
offer_rows hour unit =
    range 9 (steps hour unit) 1 10
    ∷ range 9 (quantity hour unit 1) 1 19
    ∷ range 9 (quantity hour unit 5) 41 59
    ∷ range 9 (quantity hour unit 10) 91 1000000
    ∷ range 9 (price hour unit 1) 0 200
    ∷ range 9 (price hour unit 5) 400 600
    ∷ range 9 (price hour unit 10) 900 10000000
    ∷ []

-- "commitment above the last offer, or over 0 outside the plant": the last quantity of the good offer, of a first step alone, and of ten
unfoldable pub commitment_rows : List Row
commitment_rows =
    up_to 12 (commitment 1 1) 130000
    ∷ up_to 12 (commitment 24 8) 130000
    ∷ up_to 12 (commitment_under 1 1 1) 10
    ∷ up_to 12 (commitment_under 1 24 8) 10
    ∷ up_to 12 (commitment_under 10 1 1) 100
    ∷ up_to 12 (commitment_under 10 24 8) 100
    ∷ up_to 12 (commitment 1 2) 0
    ∷ up_to 12 (commitment 24 7) 0
    ∷ []

-- "hour mark neither open nor settled; .. stored amount beyond ±10^11 ..; stored energy above 8 × 10^10": units 2 and 7 are outside the
-- plant
unfoldable pub stored_rows : List Row
stored_rows =
    up_to 12 (mark 1) 1
    ∷ up_to 12 (mark 24) 1
    ∷ up_to 12 (energy 1 1) 80000000000
    ∷ up_to 12 (energy 24 8) 80000000000
    ∷ up_to 12 (energy 1 2) 80000000000
    ∷ up_to 12 (energy 24 7) 80000000000
    ∷ within 12 (amount 1 1 1) 100000000000
    ∷ within 12 (amount 24 8 5) 100000000000
    ∷ within 12 (amount 1 2 1) 100000000000
    ∷ within 12 (amount 24 7 5) 100000000000
    ∷ []

-- "count above the list or 100,000; .. posted beyond ±10^12"
unfoldable pub journal_rows : List Row
journal_rows =
    up_to 12 (count_in 0) 0
    ∷ up_to 12 (count_in 7) 7
    ∷ up_to 12 (count_in 100001) 100000
    ∷ within 12 first_posted 1000000000000
    ∷ within 12 last_posted 1000000000000
    ∷ gives 0 uncounted
    ∷ gives 0 good
    ∷ gives 9 both_broken
    ∷ []

unfoldable pub rows : List Row
rows = head_rows ++ (unit_rows ++ (offer_rows 1 1 ++ (offer_rows 24 8 ++ (commitment_rows ++ (stored_rows ++ journal_rows)))))
