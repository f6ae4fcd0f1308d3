-- For the code: what holds once the parts have their quotients (`Due`), by the laws.
-- Assumes nothing.
use mathlib.Core.Path.{◌≡◌, ◌∙◌, ap}
use mathlib.Core.List.{List}
use Prim.Native.Nat.{ℕ, ◌+◌, ◌≤◌, ◌<◌}
use native.Mathlib.Omega.{arith}
use borrow.Author.Tests.{ne_eqb}
use lib.ListN.{length, get_or}
use Rattle.finite.specs.Finite.{sum, tabulate}
use Rattle.finite.proofs.Sums.{sum_same}
use Rattle.finite.proofs.Tables.{length_tabulate, get_d_tabulate}
use Rattle.apportion.specs.Shares.{sum_of, quotient, remainder, shares, add_ones, largest, Due}
use Rattle.apportion.proofs.Laws.{some_part, room}

-- for the code: there is a part, and the divisor is over 0
pub due_some : (w : List ℕ) (total all rest : ℕ) (a : List ℕ) → Due w total all rest a → (length a ≡ length w) × (0 < length w) × (0 < all)
due_some w total all rest a d =
    let some : 0 < sum_of w = d.some in
    (ap length d.begun ∙ length_tabulate (length w) (quotient all total w), some_part (length w) (λ i. get_or w i 0) some, omega (arith, d.summed))

pub due_room : (w : List ℕ) (total all rest : ℕ) (a₀ : List ℕ) → Due w total all rest a₀ → (h : ℕ) → h < rest
    → let a = add_ones (quotient all total w) (remainder all total w) (length w) h a₀ in
    let b = largest (quotient all total w) (remainder all total w) a (length w) in
    (length a ≡ length w) × (b < length w) × (get_or a b 0 + 1 ≤ total)
due_room w total all rest a₀ d h l = rw (d.begun, d.summed) (room w total d.some h (omega (arith, d.due)))

pub due_shares : (w : List ℕ) (total all rest : ℕ) (a₀ : List ℕ) → Due w total all rest a₀
    → add_ones (quotient all total w) (remainder all total w) (length w) rest a₀ ≡ shares w total
unfolding shares
due_shares w total all rest a₀ d =
    let some : 0 < sum_of w = d.some in
    simp (ne_eqb (sum_of w) 0 (λ e. omega arith)) (rw (d.begun, d.due, d.summed))

pub quotients_sum : (w : List ℕ) (total all : ℕ) (a : List ℕ) → all ≡ sum_of w → a ≡ tabulate (length w) (quotient all total w)
    → sum_of a ≡ sum (length w) (quotient (sum_of w) total w)
quotients_sum w total all a e f =
    let q = quotient (sum_of w) total w in
    let t = tabulate (length w) q in
    let a' : a ≡ t = f ∙ ap (λ (x : ℕ). tabulate (length w) (quotient x total w)) e in
    ap sum_of a' ∙ (ap (λ (k : ℕ). sum k (λ i. get_or t i 0)) (length_tabulate (length w) q) ∙ sum_same (length w) (λ i. get_or t i 0) q (λ i l. get_d_tabulate (length w) q i 0 l))
