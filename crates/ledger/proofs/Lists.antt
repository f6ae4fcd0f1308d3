-- The postings of a call, as the book makes them and as the ledger says them, and the journal after them.
-- Assumes nothing.
use mathlib.Core.Path.{◌≡◌, refl, ap, ◌∙◌}
use mathlib.Core.Bool.{Bool, true, false, cond}
use mathlib.Core.List.{List, [], ◌++◌, append-nil}
use Prim.Native.Nat.{ℕ, zero, suc, ◌+◌, ◌*◌, ◌≤◌, ◌<◌}
use native.Mathlib.Numerals.{add-one}
use native.Mathlib.Omega.{arith}
use lib.IntN.{◌-ℤ◌}
use lib.ListN.{length, get_or, take, drop, length-append}
use lib.Seq.{take_at, paste, take-paste, drop-paste, length-paste}
use Rattle.finite.specs.Finite.{tabulate}
use Rattle.finite.proofs.Tables.{tabulate_same, length_tabulate}
use Rattle.units.specs.Units.{member_at, members}
use Rattle.units.proofs.Laws.{members_zero, members_in, members_out}
use Rattle.sheet.specs.declared.Sheet.{Sheet}
use Rattle.settlement.specs.declared.Amounts.{Amounts}
use Rattle.state.specs.Book.{item_of, past_amounts}
use Rattle.postings.specs.declared.Posting.{Posting}
use Rattle.postings.specs.Plan.{posting_of, unit_postings, postings_to, postings_of, padded}
use Rattle.ledger.specs.Ledger.{Kept, amount_for, posts}

module _ (sheet : Sheet) (hour : ℕ) (old new : Kept) (f : ℕ → ℕ) (before after : List Amounts)
    (was : (k i : ℕ) → k < 8 → i < 5 → item_of (get_or before k past_amounts) i ≡ amount_for sheet old f k i)
    (is : (k i : ℕ) → k < 8 → i < 5 → member_at sheet.units k ≡ true → item_of (get_or after k past_amounts) i ≡ amount_for sheet new f k i) where
  unit_same : (k : ℕ) → k < 8 → member_at sheet.units k ≡ true
      → unit_postings hour k (get_or before k past_amounts) (get_or after k past_amounts)
      ≡ tabulate 5 (λ i. record { hour = hour; unit = k + 1; item = i + 1; amount = amount_for sheet new f k i -ℤ amount_for sheet old f k i })
  unfolding unit_postings
  unit_same k l m =
      tabulate_same 5 (posting_of hour k (get_or before k past_amounts) (get_or after k past_amounts))
      (λ i. record { hour = hour; unit = k + 1; item = i + 1; amount = amount_for sheet new f k i -ℤ amount_for sheet old f k i })
      (λ i b. λ j. record { hour = hour; unit = k + 1; item = i + 1; amount = is k i l b m j -ℤ was k i l b j })

  to_same : (n : ℕ) → n ≤ 8 → postings_to hour sheet.units before after n ≡ posts sheet hour old new f n
  unfolding postings_to posts
  to_same zero h = refl
  to_same (suc n) h = by (member_at sheet.units n) refl (to_same n (omega arith))
    where
      by : (t : Bool) → member_at sheet.units n ≡ t → postings_to hour sheet.units before after n ≡ posts sheet hour old new f n
          → postings_to hour sheet.units before after n ++ cond t (unit_postings hour n (get_or before n past_amounts) (get_or after n past_amounts)) []
          ≡ cond t (posts sheet hour old new f n ++ tabulate 5 (λ i. record { hour = hour; unit = n + 1; item = i + 1; amount = amount_for sheet new f n i -ℤ amount_for sheet old f n i })) (posts sheet hour old new f n)
      by true m e = ap (λ (p : List Posting). p ++ unit_postings hour n (get_or before n past_amounts) (get_or after n past_amounts)) e ∙ ap (λ (u : List Posting). posts sheet hour old new f n ++ u) (unit_same n (omega arith) m)
      by false m e = append-nil (postings_to hour sheet.units before after n) ∙ e

  pub posts_same : postings_of hour sheet.units before after ≡ posts sheet hour old new f 8
  unfolding postings_of
  posts_same = to_same 8 (omega arith)

-- five per unit of the plant
pub posts_length : (sheet : Sheet) (hour : ℕ) (old new : Kept) (f : ℕ → ℕ) (n : ℕ) → n ≤ 8 → length (posts sheet hour old new f n) ≡ 5 * members sheet.units n
unfolding posts
posts_length sheet hour old new f zero h = let z = members_zero sheet.units in omega arith
posts_length sheet hour old new f (suc n) h = by (member_at sheet.units n) refl (posts_length sheet hour old new f n (omega arith))
  where
    g : ℕ → Posting
    g i = record { hour = hour; unit = n + 1; item = i + 1; amount = amount_for sheet new f n i -ℤ amount_for sheet old f n i }

    by : (t : Bool) → member_at sheet.units n ≡ t → length (posts sheet hour old new f n) ≡ 5 * members sheet.units n
        → length (cond t (posts sheet hour old new f n ++ tabulate 5 g) (posts sheet hour old new f n)) ≡ 5 * members sheet.units (suc n)
    by true m e = let c = members_in sheet.units n m in rw (length-append, ← add-one n) (omega (arith, length_tabulate 5 g))
    by false m e = let c = members_out sheet.units n (omega arith) m in rw (← add-one n) (omega arith)

-- the list after a call that posts: rows from the count on
module _ (journal rows : List Posting) (count : ℕ) where
  front : take (length rows) (padded rows) ≡ rows
  unfolding padded
  front = take_at rows _ (length rows) refl

  long : length rows ≤ length (padded rows)
  unfolding padded
  long = rw length-append (omega arith)

  module _ (room : count + length rows ≤ length journal) where
    pub pasted_length : length (paste journal count (padded rows) (length rows)) ≡ length journal
    pasted_length = length-paste journal count (padded rows) (length rows) room long

    pub pasted_entries : take (count + length rows) (paste journal count (padded rows) (length rows)) ≡ take count journal ++ rows
    pasted_entries = take-paste journal count (padded rows) (length rows) (omega arith) long ∙ ap (λ (r : List Posting). take count journal ++ r) front

    pub pasted_free : drop (count + length rows) (paste journal count (padded rows) (length rows)) ≡ drop (count + length rows) journal
    pasted_free = drop-paste journal count (padded rows) (length rows) (omega arith) long
