-- Rows of the sheet by their place: the lines that repeat are found by the places before them.
-- Assumes nothing.
use mathlib.Core.Path.{◌≡◌, ap, ◌∙◌}
use mathlib.Core.List.{[], ◌∷◌}
use Prim.Native.Nat.{ℕ, suc, ◌-◌, ◌≤◌, ◌<◌}
use native.Mathlib.Omega.{arith}
use lib.ListN.{get_or, replicate, get_or-append, get_or-replicate}
use Rattle.text.specs.Rows.{word, number_row}
use Rattle.sheet.specs.Limits.{most_cpf, most_units}
use Rattle.sheet_lines.specs.Rows.{head_rows, unit_rows, offer_row, end_row}

pub cpf_row : (month k : ℕ) → 5 ≤ k → k < 29 → get_or (head_rows month) k end_row ≡ number_row (word "cpf") 0 most_cpf
unfolding head_rows
cpf_row month k low high =
    let e : k ≡ suc (suc (suc (suc (suc (k - 5))))) = omega arith in
    ap (λ (n : ℕ). get_or (head_rows month) n end_row) e
    ∙ (get_or-append (replicate 24 (number_row (word "cpf") 0 most_cpf)) (number_row (word "units") 1 most_units ∷ []) end_row (k - 5) (omega arith)
    ∙ get_or-replicate 24 (k - 5) (number_row (word "cpf") 0 most_cpf) end_row (omega arith))

pub offer_at_lem : (k : ℕ) → 3 ≤ k → k < 27 → get_or unit_rows k end_row ≡ offer_row
unfolding unit_rows
offer_at_lem k low high =
    let e : k ≡ suc (suc (suc (k - 3))) = omega arith in
    ap (λ (n : ℕ). get_or unit_rows n end_row) e ∙ get_or-replicate 24 (k - 3) offer_row end_row (omega arith)
