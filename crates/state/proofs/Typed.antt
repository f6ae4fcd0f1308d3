-- What the type of a book says of its lists: how many entries each has, and that each unit's amounts are five.
-- Assumes nothing.
use mathlib.Core.Path.{◌≡◌}
use mathlib.Core.List.{List, [], ◌∷◌}
use Prim.Native.Nat.{ℕ, zero, suc, ◌<◌}
use native.Mathlib.Omega.{arith}
use lib.ListN.{length, get_or}
use mir.Val.{Val}
use denote.Array.{each}
use denote.Laws.{Is}
use denote.Shadow.{shadow}
use denote.Struct.Laws as LL
use Rattle.settlement.specs.declared.Amounts.{Amounts}
use Rattle.state.specs.declared.Book.{Book}
use Rattle.state.specs.Sizes.{entries, items, entry_of}
use Rattle.state.specs.Book.{past_amounts, Sized}
use Rattle.settlement.specs.contracts.Amounts as A
use Rattle.settlement.proofs.Amounts.TheLaws as A'
use Rattle.state.specs.contracts.Book as B
use Rattle.state.proofs.Book.TheLaws as B'

pub five_each : (xs : List Amounts) (us : List Val) → shadow (each (A.the_row).Denot (A.the_row).own_val xs us)
    → (j : ℕ) → j < length xs → length (get_or xs j past_amounts).item ≡ items
five_each [] us s j l = absurd (omega arith)
five_each (x ∷ xs) [] s j l = absurd s
five_each (x ∷ xs) (u ∷ us) s zero l = (LL.owed A.the_type A'.the_laws x (u ∷ []) s.0).0.1.0.1
five_each (x ∷ xs) (u ∷ us) s (suc j) l = five_each xs us s.1 j (omega arith)

pub typed_sized : (b : Book) (vs : List Val) → Is B.the_row b vs → Sized b
typed_sized b vs is =
    let o = LL.owed B.the_type B'.the_laws b vs is in
    let long : length b.amounts ≡ entries = o.1.1.1.0.1.0.1 in
    record {
      commitment = o.0.1.0.1;
      mark = o.1.0.1.0.1;
      energy = o.1.1.0.1.0.1;
      amounts = long;
      item = λ h k day l. five_each b.amounts o.1.1.1.0.0 o.1.1.1.0.1.1 (entry_of h k) (omega arith);
    }
