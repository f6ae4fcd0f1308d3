-- A mark is open or settled where it is at most 1.
-- Assumes nothing.
use mathlib.Core.Path.{◌≡◌, refl}
use mathlib.Core.Bool.{true, false, ◌||◌}
use Prim.Native.Nat.{ℕ, zero, suc, ◌≤◌, ◌<◌}
use native.Mathlib.Omega.{arith}
use borrow.Author.Tests.{ne_eqb}
use lib.Dec.{eqb}
use Rattle.state.specs.Book.{open_mark, settled_mark}

pub unmarked : (m : ℕ) → 1 < m → (eqb m open_mark || eqb m settled_mark) ≡ false
unmarked m l = rw (ne_eqb m 0 (λ e. omega arith), ne_eqb m 1 (λ e. omega arith))

pub marked : (m : ℕ) → m ≤ 1 → (eqb m open_mark || eqb m settled_mark) ≡ true
marked zero l = refl
marked (suc zero) l = refl
marked (suc (suc m)) l = absurd (omega arith)

pub mark_le : (m : ℕ) → (eqb m open_mark || eqb m settled_mark) ≡ true → m ≤ settled_mark
mark_le zero t = omega arith
mark_le (suc zero) t = omega arith
mark_le (suc (suc m)) t =
    absurd (let e = unmarked (suc (suc m)) (omega arith) in let z : ◌≡◌ {A = ℕ} 0 1 = cc in omega arith)
