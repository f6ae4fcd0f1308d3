-- Values stored one after the other: one more is a store behind those before it, and the table counts only as far as it is stored.
-- Assumes nothing.
use mathlib.Core.Path.{◌≡◌, refl, sym, ap, ◌∙◌}
use mathlib.Core.List.{List}
use Prim.Native.Nat.{ℕ, zero, suc, ◌+◌, ◌<◌}
use native.Mathlib.Omega.{arith}
use lib.IntN.{ℤ}
use lib.ListN.{get_or, set}
use Rattle.finite.specs.Finite.{tabulate}
use Rattle.finite.proofs.Tables.{get_d_tabulate}
use Rattle.state.specs.declared.Book.{Book}
use Rattle.state.specs.Book.{past_amounts}
use Rattle.exports.specs.Exports.{put, item_numbers, amounts_to}

module _ {A : Type 0} where
  -- the store that follows
  pub put_next : (l m : List A) (at : ℕ) (f : ℕ → A) (k n : ℕ) (x : A) → m ≡ put l at f k → x ≡ f k → n ≡ suc k → set m (at + k) x ≡ put l at f n
  unfolding put
  put_next l m at f k n x e g h =
      ap (λ (z : List A). set z (at + k) x) e ∙ (ap (λ (z : A). set (put l at f k) (at + k) z) g ∙ ap (λ (z : ℕ). put l at f z) (sym h))

  pub put_none : (l : List A) (at : ℕ) (f : ℕ → A) → put l at f 0 ≡ l
  unfolding put
  put_none l at f = refl

  pub put_same : (l : List A) (at : ℕ) (f g : ℕ → A) (n : ℕ) → ((k : ℕ) → k < n → f k ≡ g k) → put l at f n ≡ put l at g n
  unfolding put
  put_same l at f g zero same = refl
  put_same l at f g (suc k) same =
      ap (λ (m : List A). set m (at + k) (f k)) (put_same l at f g k (λ i h. same i (omega arith))) ∙ ap (λ (x : A). set (put l at g k) (at + k) x) (same k (omega arith))

  -- a list made by index, stored
  pub put_table : (l m out : List A) (at n : ℕ) (none : A) (f : ℕ → A) → m ≡ tabulate n f → out ≡ put l at (λ k. get_or m k none) n → out ≡ put l at f n
  put_table l m out at n none f e stored =
      stored
      ∙ (ap (λ (x : List A). put l at (λ k. get_or x k none) n) e
      ∙ put_same l at (λ k. get_or (tabulate n f) k none) f n (λ k h. get_d_tabulate n f k none h))

-- the same for the amounts, five at a time
pub amounts_none : (b : Book) (l : List ℤ) → amounts_to b l 0 ≡ l
unfolding amounts_to
amounts_none b l = refl

pub amounts_next : (b : Book) (l m : List ℤ) (k n : ℕ) → m ≡ amounts_to b l k → n ≡ suc k → item_numbers m k (get_or b.amounts k past_amounts) ≡ amounts_to b l n
unfolding amounts_to
amounts_next b l m k n e h = ap (λ (z : List ℤ). item_numbers z k (get_or b.amounts k past_amounts)) e ∙ ap (λ (z : ℕ). amounts_to b l z) (sym h)
