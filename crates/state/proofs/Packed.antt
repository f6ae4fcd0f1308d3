-- The book of four lists of numbers: a book is that of its own numbers, and each of its entries is the number at its
-- place. Both are made by index, so it is enough to see it at each index: the five items of entry j stand from 5 j on.
-- Assumes nothing.
use mathlib.Core.Path.{◌≡◌, refl, sym, ◌∙◌, ap, subst}
use mathlib.Core.Bool.{true}
use mathlib.Core.List.{List}
use Prim.Native.Nat.{ℕ, ◌+◌, ◌*◌, ◌/◌, ◌%◌, ◌<◌, ◌≤◌}
use native.Mathlib.Omega.{arith}
use lib.IntN.{ℤ, pos, nat_abs}
use lib.ListN.{length, get_or}
use lib.Seq.{ext_get_or}
use Rattle.finite.proofs.Tables.{length_tabulate, get_d_tabulate, tabulate_same}
use Rattle.energy.specs.declared.HubKwh.{HubKwh}
use Rattle.energy.specs.declared.HubGrains.{HubGrains}
use Rattle.sheet.specs.declared.Sheet.{Sheet}
use Rattle.settlement.specs.declared.Amounts.{Amounts}
use Rattle.state.specs.declared.Book.{Book}
use Rattle.state.specs.Sizes.{hours, places, items, entries, entry_of}
use Rattle.state.specs.Book.{no_kwh, no_grains, past_amounts, item_of, commitment_at, mark_at, energy_at, amount_at, Sized}
use Rattle.state.specs.Book as S
use Rattle.state.specs.Numbers.{commitments_of, energies_of, amounts_at, amounts_of, book_of, kwh_of, grains_of, amount_numbers}
use Rattle.state.specs.Ranges.{most_amount, book_holds}
use Rattle.state.proofs.Entries.{entry_lt, entry_back}
use Rattle.state.proofs.InRange.{book_in_range}
use Rattle.state.proofs.Listed.{own_entries, own_numbers}

-- the entries of the three lists that are made of numbers
abbrev kwh_in : List ℕ → ℕ → HubKwh
kwh_in c j = record { 0 = get_or c j 0 }

abbrev grains_in : List ℕ → ℕ → HubGrains
grains_in e j = record { 0 = get_or e j 0 }

abbrev pub item_in : List ℤ → ℕ → ℕ → ℤ
item_in a j i = get_or a (items * j + i) (pos 0)

commitments_at : (c : List ℕ) (j : ℕ) → j < entries → get_or (commitments_of c) j no_kwh ≡ kwh_in c j
unfolding commitments_of
commitments_at c j l = get_d_tabulate entries (kwh_in c) j no_kwh l

energies_at : (e : List ℕ) (j : ℕ) → j < entries → get_or (energies_of e) j no_grains ≡ grains_in e j
unfolding energies_of
energies_at e j l = get_d_tabulate entries (grains_in e) j no_grains l

pub amounts_at_lem : (a : List ℤ) (j : ℕ) → j < entries → get_or (amounts_of a) j past_amounts ≡ amounts_at a j
unfolding amounts_of
amounts_at_lem a j l = get_d_tabulate entries (amounts_at a) j past_amounts l

pub commitments_length : (c : List ℕ) → length (commitments_of c) ≡ entries
unfolding commitments_of
commitments_length c = length_tabulate entries (kwh_in c)

pub energies_length : (e : List ℕ) → length (energies_of e) ≡ entries
unfolding energies_of
energies_length e = length_tabulate entries (grains_in e)

pub amounts_length : (a : List ℤ) → length (amounts_of a) ≡ entries
unfolding amounts_of
amounts_length a = length_tabulate entries (amounts_at a)

-- the book's own entries, by hour and place
module _ (c m e : List ℕ) (a : List ℤ) (h : ℕ) where
  pub mark_in : mark_at (book_of c m e a) h ≡ get_or m h 0
  mark_in = refl

  module _ (k : ℕ) (day : h < hours) (l : k < places) where
    pub commitment_in : commitment_at (book_of c m e a) h k ≡ record { 0 = get_or c (entry_of h k) 0 }
    commitment_in = commitments_at c (entry_of h k) (entry_lt h k day l)

    pub kwh_in_lem : (commitment_at (book_of c m e a) h k).0 ≡ get_or c (entry_of h k) 0
    kwh_in_lem = ap (λ (x : HubKwh). x.0) commitment_in

    pub energy_in : energy_at (book_of c m e a) h k ≡ record { 0 = get_or e (entry_of h k) 0 }
    energy_in = energies_at e (entry_of h k) (entry_lt h k day l)

    pub amounts_in : S.amounts_at (book_of c m e a) h k ≡ amounts_at a (entry_of h k)
    amounts_in = amounts_at_lem a (entry_of h k) (entry_lt h k day l)

    pub amount_in_lem : (i : ℕ) → i < items → amount_at (book_of c m e a) h k i ≡ get_or a (items * entry_of h k + i) (pos 0)
    amount_in_lem i b =
        ap (λ (x : Amounts). item_of x i) amounts_in ∙ get_d_tabulate items (item_in a (entry_of h k)) i (pos 0) b

pub book_sized : (c m e : List ℕ) (a : List ℤ) → length m ≡ hours → Sized (book_of c m e a)
book_sized c m e a long =
    record {
      commitment = commitments_length c;
      mark = long;
      energy = energies_length e;
      amounts = amounts_length a;
      item = λ h k day l. ap (λ (x : Amounts). length x.item) (amounts_in c m e a h k day l) ∙ length_tabulate items (item_in a (entry_of h k));
    }

-- a list is that of its numbers
kwh_same : (l : List HubKwh) → length l ≡ entries → commitments_of (kwh_of l) ≡ l
unfolding commitments_of kwh_of
kwh_same l long = own_numbers no_kwh entries (λ n. record { 0 = n }) (λ x. x.0) (λ x. refl) l long

grains_same : (l : List HubGrains) → length l ≡ entries → energies_of (grains_of l) ≡ l
unfolding energies_of grains_of
grains_same l long = own_numbers no_grains entries (λ n. record { 0 = n }) (λ x. x.0) (λ x. refl) l long

pub number_at : (l : List Amounts) (j i : ℕ) → j < entries → i < items → item_in (amount_numbers l) j i ≡ item_of (get_or l j past_amounts) i
unfolding amount_numbers
number_at l j i a b =
    let f : ℕ → ℤ = λ n. item_of (get_or l (n / items) past_amounts) (n % items) in
    let d : (items * j + i) / items ≡ j = omega arith in
    let r : (items * j + i) % items ≡ i = omega arith in
    get_d_tabulate (items * entries) f (items * j + i) (pos 0) (omega arith) ∙ rw (d, r)

numbers_same : (l : List Amounts) → length l ≡ entries → ((j : ℕ) → j < entries → length (get_or l j past_amounts).item ≡ items)
    → amounts_of (amount_numbers l) ≡ l
numbers_same l long five =
    ext_get_or past_amounts (amounts_of (amount_numbers l)) l (amounts_length (amount_numbers l) ∙ sym long)
    (λ j b. let n : j < entries = omega (arith, amounts_length (amount_numbers l)) in
    let x : Amounts = get_or l j past_amounts in
    let s = tabulate_same items (item_in (amount_numbers l) j) (item_of x) (λ i t. number_at l j i n t) ∙ own_entries items x.item (pos 0) (five j n) in
    amounts_at_lem (amount_numbers l) j n ∙ (λ i. record { item = s i }))

pub book_same : (b : Book) → Sized b → book_of (kwh_of b.commitment) b.mark (grains_of b.energy) (amount_numbers b.amounts) ≡ b
book_same b s =
    let five : (j : ℕ) → j < entries → length (get_or b.amounts j past_amounts).item ≡ items =
    λ j l. rw (entry_back j) at (s.item (j / places) (j % places) (omega arith) (omega arith)) in
    λ i. record {
      commitment = kwh_same b.commitment s.commitment i;
      mark = b.mark;
      energy = grains_same b.energy s.energy i;
      amounts = numbers_same b.amounts s.amounts five i;
    }

-- where 12 does not hold of the book, each amount of the list keeps its bound
module _ (s : Sheet) (c m e : List ℕ) (a : List ℤ) (fits : book_holds s (book_of c m e a) ≡ true) where
  abbrev Within : ℕ → Type 0
  Within n = nat_abs (get_or a n (pos 0)) ≤ most_amount

  pub amount_at_lem : (h k i : ℕ) → h < hours → k < places → i < items → Within (items * entry_of h k + i)
  amount_at_lem h k i day l j =
      subst (λ (x : ℤ). nat_abs x ≤ most_amount) (amount_in_lem c m e a h k day l i j)
      ((book_in_range s (book_of c m e a) fits).amount h k i day l j)
