-- The empty book and the result of an hour without a record: each entry is 0, also past the end, where a reading gives 0 as well.
-- Assumes nothing.
use mathlib.Core.Path.{◌≡◌, refl, ap, ◌∙◌}
use mathlib.Core.Bool.{Bool, true, false}
use Prim.Native.Nat.{ℕ, ◌<◌}
use native.Mathlib.Omega.{arith}
use borrow.Author.Tests.{ltb-true, ltb-false}
use lib.Dec.{ltb}
use lib.IntN.{pos}
use lib.ListN.{length, get_or, replicate, length-replicate, get_or-replicate, get_or-eq_default}
use Rattle.settlement.specs.declared.Amounts.{Amounts}
use Rattle.state.specs.Sizes.{hours, places, items, entries, entry_of}
use Rattle.state.specs.Book.{no_kwh, no_grains, no_amounts, past_amounts, open_mark, commitment_at, mark_at, energy_at, amounts_at, item_of, amount_at, Sized, empty_book, no_result}
use Rattle.state.proofs.Entries.{entry_lt}

pub all_same : {A : Type 0} (n i : ℕ) (d : A) → get_or (replicate n d) i d ≡ d
all_same n i d = by (ltb i n) refl
  where
    by : (t : Bool) → ltb i n ≡ t → get_or (replicate n d) i d ≡ d
    by true e = get_or-replicate n i d d (ltb-true i n e)
    by false e = get_or-eq_default (replicate n d) d (omega (arith, length-replicate n d, ltb-false i n e))

pub none_item : (i : ℕ) → item_of no_amounts i ≡ pos 0
none_item i = all_same items i (pos 0)

pub empty_commitment : (h k : ℕ) → commitment_at empty_book h k ≡ no_kwh
unfolding empty_book
empty_commitment h k = all_same entries (entry_of h k) no_kwh

pub empty_mark : (h : ℕ) → mark_at empty_book h ≡ open_mark
unfolding empty_book
empty_mark h = all_same hours h 0

pub empty_energy : (h k : ℕ) → energy_at empty_book h k ≡ no_grains
unfolding empty_book
empty_energy h k = all_same entries (entry_of h k) no_grains

pub empty_amounts : (h k : ℕ) → h < hours → k < places → amounts_at empty_book h k ≡ no_amounts
unfolding empty_book
empty_amounts h k a b = get_or-replicate entries (entry_of h k) no_amounts past_amounts (entry_lt h k a b)

pub empty_amount : (h k i : ℕ) → h < hours → k < places → amount_at empty_book h k i ≡ pos 0
empty_amount h k i a b = ap (λ (x : Amounts). item_of x i) (empty_amounts h k a b) ∙ none_item i

pub empty_sized : Sized empty_book
unfolding empty_book
empty_sized =
    record {
      commitment = length-replicate entries no_kwh;
      mark = length-replicate hours open_mark;
      energy = length-replicate entries no_grains;
      amounts = length-replicate entries no_amounts;
      item = λ h k a b. ap (λ (x : Amounts). length x.item) (empty_amounts h k a b);
    }

pub none_energy : (k : ℕ) → get_or no_result.energy k no_grains ≡ no_grains
unfolding no_result
none_energy k = all_same places k no_grains

pub none_amounts : (k : ℕ) → k < places → get_or no_result.amounts k past_amounts ≡ no_amounts
unfolding no_result
none_amounts k l = get_or-replicate places k no_amounts past_amounts l

pub none_amount : (k i : ℕ) → k < places → item_of (get_or no_result.amounts k past_amounts) i ≡ pos 0
none_amount k i l = ap (λ (x : Amounts). item_of x i) (none_amounts k l) ∙ none_item i
