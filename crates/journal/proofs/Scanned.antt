-- The scan tells whether the postings up to the count hold wherever that matters, and then their total; so 9, 12 and the sum are what the definitions say.
-- Assumes nothing.
use Rattle.std.specs.Prelude.{Option, Some, None, Result, Ok, Err, is_some}
use Rattle.std.specs.Option.{ok_or}
use mathlib.Core.Path.{◌≡◌, refl, sym, ap, ◌∙◌}
use mathlib.Core.Bool.{Bool, true, false, cond}
use mathlib.Core.List.{List}
use Prim.Native.Nat.{ℕ, zero, suc, ◌≤◌}
use native.Mathlib.Omega.{arith}
use lib.IntN.{ℤ}
use lib.ListN.{length, get_or, take}
use lib.Seq.{get_or-take, length-take-le}
use Rattle.sheet.specs.declared.Sheet.{Sheet}
use Rattle.sheet.specs.Ranges.{sheet_holds}
use Rattle.state.specs.Ranges.{book_holds}
use Rattle.postings.specs.declared.Posting.{Posting}
use Rattle.postings.specs.Journal.{no_posting, covered_by, count_holds, posted_hold, total_of, scanned_with, scanned_to, scanned}
use Rattle.postings.proofs.Counted.{count_list, count_most, covered_list, covered_all}
use Rattle.postings.proofs.Scan.{scan_good, scan_sum}
use Rattle.ledger.specs.declared.Refusal.{Refusal}
use Rattle.ledger.specs.declared.Refusal.TheVariants.{SheetRange, BookRange, UnitUnknown}
use Rattle.ledger.specs.Answers.{Verdict}
use Rattle.ledger.specs.Calls.{State, fits_in}
use Rattle.ledger.specs.Total.{total_by, item_of, total_decided, total_on}
use Rattle.engine.specs.Journal.{scanned_in}
use Rattle.journal.specs.Accounts.{passes, tested}

-- a scan of a list's first postings, by the list cut behind them
pub scanned_front : (l : List Posting) (unit item n : ℕ) → n ≤ length l → (k : ℕ) → k ≤ n → scanned_to (take n l) unit item k ≡ scanned_to l unit item k
unfolding scanned_to
scanned_front l unit item n h zero b = refl
scanned_front l unit item n h (suc k) b =
    ap (λ (s : Option ℤ). scanned_with s (get_or (take n l) k no_posting) unit item) (scanned_front l unit item n h k (omega arith))
    ∙ ap (λ (x : Posting). scanned_with (scanned_to l unit item k) x unit item) (get_or-take n l k no_posting (omega arith))

pub scanned_covered : (l : List Posting) (count unit item n : ℕ) → n ≡ covered_by count (length l) → scanned unit item (take n l) ≡ scanned_in l count unit item
scanned_covered l count unit item n e =
    let h : n ≤ length l = omega (arith, e, covered_list count (length l)) in
    let long : length (take n l) ≡ n = length-take-le n l h in
    ap (scanned_to (take n l) unit item) long ∙ (scanned_front l unit item n h n (omega arith) ∙ ap (scanned_to l unit item) e)

module _ (s : Sheet) (st : State) (unit item : ℕ) where
  abbrev entries : List Posting
  entries = take st.count st.journal

  -- where the count holds, the scan sees all postings up to it
  seen : count_holds st.count (length st.journal) ≡ true → scanned_in st.journal st.count unit item ≡ scanned_to st.journal unit item st.count
  seen t = ap (scanned_to st.journal unit item) (covered_all st.count (length st.journal) t)

  -- the sum that is found, and none
  found_sum : sheet_holds s ≡ true → book_holds s st.book ≡ true → count_holds st.count (length st.journal) ≡ true → (z : ℤ)
      → scanned_in st.journal st.count unit item ≡ Some z → Ok z ≡ tested s st unit item
  found_sum holds fits counted z e =
      let some : posted_hold entries ≡ true = sym (scan_good st.journal unit item st.count (count_list st.count (length st.journal) counted)) ∙ ap is_some (sym (seen counted) ∙ e) in
      let sum : Some z ≡ Some (total_of unit item entries) =
      sym e ∙ (seen counted ∙ scan_sum st.journal unit item st.count (count_list st.count (length st.journal) counted) (count_most st.count (length st.journal) counted) some) in
      rw (holds, fits, counted, some) (ap Ok (same_some z _ sum))
    where
      same_some : (x y : ℤ) → ◌≡◌ {A = Option ℤ} (Some x) (Some y) → x ≡ y
      same_some x y h = cc

  found_none : sheet_holds s ≡ true → book_holds s st.book ≡ true → count_holds st.count (length st.journal) ≡ true
      → scanned_in st.journal st.count unit item ≡ None → Err BookRange ≡ tested s st unit item
  found_none holds fits counted e =
      let none : posted_hold entries ≡ false = sym (scan_good st.journal unit item st.count (count_list st.count (length st.journal) counted)) ∙ ap is_some (sym (seen counted) ∙ e) in
      rw (holds, fits, counted, none)

  pub found : sheet_holds s ≡ true → book_holds s st.book ≡ true → count_holds st.count (length st.journal) ≡ true
      → (o : Option ℤ) → scanned_in st.journal st.count unit item ≡ o → ok_or o BookRange ≡ tested s st unit item
  found holds fits counted (Some z) e = found_sum holds fits counted z e
  found holds fits counted None e = found_none holds fits counted e

  -- 9 and 12 alone
  by_passes : (t u : Bool) (z : ℤ) (r : Refusal)
      → let v : Result ℤ Refusal = cond t (cond u (Ok z) (Err BookRange)) (Err SheetRange) in
      let w : Verdict = cond t (cond u (Ok tt) (Err BookRange)) (Err SheetRange) in
      (v ≡ Err r → Err r ≡ w) × ((y : ℤ) → v ≡ Ok y → Ok tt ≡ w)
  by_passes true true z r = (λ e. absurd (let q : ◌≡◌ {A = ℕ} 0 1 = cc in omega arith), λ y e. refl)
  by_passes true false z r = (λ e. cc, λ y e. absurd (let q : ◌≡◌ {A = ℕ} 0 1 = cc in omega arith))
  by_passes false u z r = (λ e. cc, λ y e. absurd (let q : ◌≡◌ {A = ℕ} 0 1 = cc in omega arith))

  pub refused_passes : (r : Refusal) → tested s st unit item ≡ Err r → Err r ≡ passes s st
  refused_passes r e = (by_passes (sheet_holds s) (fits_in s st) _ r).0 e

  pub accepted_passes : (z : ℤ) → tested s st unit item ≡ Ok z → Ok tt ≡ passes s st
  accepted_passes z e = (by_passes (sheet_holds s) (fits_in s st) _ SheetRange).1 z e

  -- and 11
  by_total : (t u : Bool) (known : Bool) (z : ℤ)
      → let v : Result ℤ Refusal = cond t (cond u (Ok z) (Err BookRange)) (Err SheetRange) in
      ((r : Refusal) → v ≡ Err r → Err r ≡ total_by t u known z) × ((y : ℤ) → v ≡ Ok y → cond known (Ok y) (Err UnitUnknown) ≡ total_by t u known z)
  unfolding total_by
  by_total true true known z = (λ r e. absurd (let q : ◌≡◌ {A = ℕ} 0 1 = cc in omega arith), λ y e. ap (λ (x : Result ℤ Refusal). cond known x (Err UnitUnknown)) (sym e))
  by_total true false known z = (λ r e. sym e, λ y e. absurd (let q : ◌≡◌ {A = ℕ} 0 1 = cc in omega arith))
  by_total false u known z = (λ r e. sym e, λ y e. absurd (let q : ◌≡◌ {A = ℕ} 0 1 = cc in omega arith))

  pub total_refused : (r : Refusal) → tested s st unit item ≡ Err r → Err r ≡ total_on s st unit item
  unfolding total_on total_decided
  total_refused r e = (by_total (sheet_holds s) (fits_in s st) (item_of s unit item) (total_of unit item entries)).0 r e

  pub total_known : (z : ℤ) → tested s st unit item ≡ Ok z → cond (item_of s unit item) (Ok z) (Err UnitUnknown) ≡ total_on s st unit item
  unfolding total_on total_decided
  total_known z e = (by_total (sheet_holds s) (fits_in s st) (item_of s unit item) (total_of unit item entries)).1 z e
