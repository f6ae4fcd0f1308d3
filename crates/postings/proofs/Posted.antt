-- The postings of a call: how many, where each stands, how large each is, and that those of a unit and item add up to the difference of its amounts.
-- Each by going from place to place.
-- Assumes nothing.
use mathlib.Core.Path.{◌≡◌, refl, sym, ap, ◌∙◌, subst}
use mathlib.Core.Logic.{⊎_elim}
use mathlib.Core.Bool.{Bool, true, false, cond}
use mathlib.Core.List.{List, [], ◌∷◌, ◌++◌}
use Prim.Native.Nat.{ℕ, zero, suc, ◌+◌, ◌*◌, ◌-◌, ◌≤◌, ◌<◌}
use native.Mathlib.Nat.{not-suc-le-zero}
use native.Mathlib.Omega.{arith}
use borrow.Author.Tests.{lt-ltb, le-ltb, eq-eqb, ne_eqb, ltb-true, ltb-false}
use lib.Dec.{ltb, eqb}
use lib.IntN.{ℤ, pos, nat_abs, neg_ℤ, ◌+ℤ◌, ◌-ℤ◌, +ℤ_idl, +ℤ_idr}
use lib.ListN.{length, get_or, take, replicate, length-append, length-replicate, get_or-append, get_or-eq_default}
use lib.Seq.{take_at, get_or-append-add}
use Rattle.units.specs.Units.{is_member, member_at, members, unit_count}
use Rattle.units.proofs.Laws.{count_members, members_le, members_zero, members_in, members_out, members_mono, place_lt}
use Rattle.formulas.proofs.Amounts.{nat_abs_sub}
use Rattle.settlement.specs.declared.Amounts.{Amounts}
use Rattle.state.specs.Sizes.{places, items}
use Rattle.state.specs.Book.{no_amounts, past_amounts, item_of}
use Rattle.state.specs.Ranges.{most_amount, ItemsWithin, AmountsWithin}
use Rattle.state.proofs.Entries.{same_or_not, and_false}
use Rattle.state.proofs.Empty.{all_same, none_item}
use Rattle.postings.specs.declared.Posting.{Posting}
use Rattle.postings.specs.Journal.{no_posting, posted_hold, total_of}
use Rattle.postings.specs.Plan.{posting_of, unit_postings, postings_of, plan_rows, padded, plan_of, row_of}
use Rattle.postings.proofs.Rows.{unit_length, unit_at_lem, to_length, places_ind}
use Rattle.postings.proofs.Totals.{posted_all, total_nothing, total_append, total_none, total_one}

-- what holds of what two lists read holds of what they read one after the other
append_either : (P : Posting → Type 0) (l m : List Posting) → ((j : ℕ) → P (get_or l j no_posting)) → ((j : ℕ) → P (get_or m j no_posting))
    → (j : ℕ) → P (get_or (l ++ m) j no_posting)
append_either P l m first second j = by (ltb j (length l)) refl
  where
    by : (t : Bool) → ltb j (length l) ≡ t → P (get_or (l ++ m) j no_posting)
    by true e = rw (get_or-append l m no_posting j (ltb-true j (length l) e)) (first j)
    by false e =
        let h = ltb-false j (length l) e in
        let q : j ≡ length l + (j - length l) = omega arith in
        subst (λ (n : ℕ). P (get_or (l ++ m) n no_posting)) (sym q)
        (rw (get_or-append-add l m (j - length l) no_posting) (second (j - length l)))

-- a place that is in the plant is no place outside it
pub clash : (units : ℕ) {k n : ℕ} → member_at units k ≡ true → member_at units n ≡ false → k ≡ n → ⊥
clash units m t e = let z : true ≡ false = sym m ∙ ap (member_at units) e ∙ t in let y : ◌≡◌ {A = ℕ} 0 1 = cc in omega arith

-- another place than k does not change whether k is below
past : (k n : ℕ) → (k ≡ n → ⊥) → ltb k n ≡ ltb k (n + 1)
past k n apart = by (ltb k n) refl
  where
    by : (t : Bool) → ltb k n ≡ t → ltb k n ≡ ltb k (n + 1)
    by true e = e ∙ sym (lt-ltb k (n + 1) (omega (arith, ltb-true k n e)))
    by false e = e ∙ sym (le-ltb k (n + 1) (omega (arith, ltb-false k n e)))

append_none : (p : List Posting) (n j : ℕ) → get_or (p ++ replicate n no_posting) j no_posting ≡ get_or p j no_posting
append_none [] n j = all_same n j no_posting
append_none (x ∷ p) n zero = refl
append_none (x ∷ p) n (suc j) = append_none p n j

-- "a void posts the old one negated"
pub void_amount : (hour k : ℕ) (old : Amounts) (i : ℕ) → (posting_of hour k old no_amounts i).amount ≡ neg_ℤ (item_of old i)
void_amount hour k old i = ap (λ (z : ℤ). z -ℤ item_of old i) (none_item i) ∙ +ℤ_idl (neg_ℤ (item_of old i))

-- a unit's postings add up to the difference of the item's amounts, and to nothing for another unit or item
module _ (hour k : ℕ) (old new : Amounts) where
  pub unit_total : (i : ℕ) → i < items → total_of (k + 1) (i + 1) (unit_postings hour k old new) ≡ item_of new i -ℤ item_of old i
  unfolding unit_postings
  unit_total i l =
      total_one (k + 1) (i + 1) (posting_of hour k old new) items i l (rw (eq-eqb (k + 1) (k + 1) refl, eq-eqb (i + 1) (i + 1) refl))
      (λ j m apart. rw (ne_eqb (j + 1) (i + 1) (λ e. apart (omega arith))) (and_false (eqb (k + 1) (k + 1))))

  pub unit_other : (unit item : ℕ) → (k + 1 ≡ unit → ⊥) → total_of unit item (unit_postings hour k old new) ≡ pos 0
  unfolding unit_postings
  unit_other unit item apart =
      total_none unit item (posting_of hour k old new) items (λ j l. rw (ne_eqb (k + 1) unit apart))

  pub item_other : (unit item : ℕ) → ((i : ℕ) → i < items → i + 1 ≡ item → ⊥) → total_of unit item (unit_postings hour k old new) ≡ pos 0
  unfolding unit_postings
  item_other unit item apart =
      total_none unit item (posting_of hour k old new) items
      (λ j l. rw (ne_eqb (j + 1) item (apart j l)) (and_false (eqb (k + 1) unit)))

  pub unit_change : ItemsWithin old → ItemsWithin new → (j : ℕ)
      → nat_abs (get_or (unit_postings hour k old new) j no_posting).amount ≤ 2 * most_amount
  unit_change before after j = by (ltb j items) refl
    where
      by : (t : Bool) → ltb j items ≡ t → nat_abs (get_or (unit_postings hour k old new) j no_posting).amount ≤ 2 * most_amount
      by true e =
          let l = ltb-true j items e in
          rw (unit_at_lem hour k old new j l) (omega (arith, nat_abs_sub (item_of new j) (item_of old j), before j l, after j l))
      by false e =
          rw (get_or-eq_default (unit_postings hour k old new) no_posting {n = j} (omega (arith, unit_length hour k old new, ltb-false j items e)))
          (omega arith)

module _ (hour units : ℕ) (old new : List Amounts) where
  -- five a unit
  pub postings_members : length (postings_of hour units old new) ≡ items * members units places
  unfolding postings_of
  postings_members = to_length hour units old new places (omega arith)

  pub postings_length : units < 256 → length (postings_of hour units old new) ≡ items * unit_count units
  postings_length h = postings_members ∙ ap (λ (n : ℕ). items * n) (sym (count_members units h))

  pub postings_most : length (postings_of hour units old new) ≤ plan_rows
  postings_most = omega (arith, postings_members, members_le units places)

  -- the rows of the plan: these postings, then none
  pub plan_row : (j : ℕ) → row_of (plan_of hour units old new) j ≡ get_or (postings_of hour units old new) j no_posting
  unfolding plan_of padded
  plan_row j =
      let p = postings_of hour units old new in append_none p (plan_rows - length p) j

  pub plan_take : take (length (postings_of hour units old new)) (plan_of hour units old new).row ≡ postings_of hour units old new
  unfolding plan_of padded
  plan_take =
      let p = postings_of hour units old new in take_at p (replicate (plan_rows - length p) no_posting) (length p) refl

  pub plan_length : length (plan_of hour units old new).row ≡ plan_rows
  unfolding plan_of padded
  plan_length =
      let p = postings_of hour units old new in
      let n = plan_rows - length p in
      omega (arith, length-append p (replicate n no_posting), length-replicate n no_posting, postings_most)

  -- where the posting of a unit's item stands: unit then item ascending
  module _ (k i : ℕ) (m : member_at units k ≡ true) (l : i < items) where
    record Standing (n : ℕ) (p : List Posting) : Type 0 where
      long : length p ≡ items * members units n
      at : k < n → get_or p (items * members units k + i) no_posting ≡ posting_of hour k (get_or old k past_amounts) (get_or new k past_amounts) i

    standing_in : (n : ℕ) (p : List Posting) → member_at units n ≡ true → Standing n p
        → Standing (n + 1) (p ++ unit_postings hour n (get_or old n past_amounts) (get_or new n past_amounts))
    standing_in n p t s =
        record {
          long = rw (members_in units n t, length-append, unit_length hour n (get_or old n past_amounts) (get_or new n past_amounts)) (omega (arith, s.long));
          at = λ h. ⊎_elim here (λ apart. earlier (omega arith)) (same_or_not k n);
        }
      where
        u : List Posting
        u = unit_postings hour n (get_or old n past_amounts) (get_or new n past_amounts)

        here : k ≡ n → get_or (p ++ u) (items * members units k + i) no_posting ≡ posting_of hour k (get_or old k past_amounts) (get_or new k past_amounts) i
        here e =
            rw (e, ← s.long)
            (get_or-append-add p u i no_posting ∙ unit_at_lem hour n (get_or old n past_amounts) (get_or new n past_amounts) i l)

        earlier : k < n → get_or (p ++ u) (items * members units k + i) no_posting ≡ posting_of hour k (get_or old k past_amounts) (get_or new k past_amounts) i
        earlier h =
            get_or-append p u no_posting (items * members units k + i)
            (omega (arith, s.long, members_in units k m, members_mono units (k + 1) n (omega arith)))
            ∙ s.at h

    standing_outside : (n : ℕ) (p : List Posting) → n < places → member_at units n ≡ false → Standing n p → Standing (n + 1) p
    standing_outside n p a t s =
        record {
          long = rw (members_out units n a t) s.long;
          at = λ h. ⊎_elim
              (λ (e : k ≡ n). absurd (clash units m t e))
              (λ apart. s.at (omega arith)) (same_or_not k n);
        }

    pub posting_at : get_or (postings_of hour units old new) (items * members units k + i) no_posting
        ≡ posting_of hour k (get_or old k past_amounts) (get_or new k past_amounts) i
    unfolding postings_of
    posting_at =
        (places_ind hour units old new Standing (record { long = omega (arith, members_zero units); at = λ h. absurd (not-suc-le-zero h) })
        (λ n p a t s. standing_in n p t s) standing_outside places (omega arith)).at (place_lt units k m)

  -- each amount is within ±2 × 10^11, so that the postings pass refusal 12
  module _ (before : AmountsWithin units old) (after : AmountsWithin units new) where
    pub change_most : (j : ℕ) → nat_abs (get_or (postings_of hour units old new) j no_posting).amount ≤ 2 * most_amount
    unfolding postings_of
    change_most =
        places_ind hour units old new (λ n p. (j : ℕ) → nat_abs (get_or p j no_posting).amount ≤ 2 * most_amount) (λ j. omega arith)
        (λ k p a m h. append_either (λ x. nat_abs x.amount ≤ 2 * most_amount) p
        (unit_postings hour k (get_or old k past_amounts) (get_or new k past_amounts)) h
        (unit_change hour k (get_or old k past_amounts) (get_or new k past_amounts) (before k m) (after k m)))
        (λ k p a m h. h) places (omega arith)

    pub postings_hold : posted_hold (postings_of hour units old new) ≡ true
    postings_hold = posted_all (postings_of hour units old new) (λ j l. omega (arith, change_most j))

  -- the postings of a unit and item add up to the difference of its amounts
  module _ (k i : ℕ) (m : member_at units k ≡ true) (l : i < items) where
    abbrev change : ℤ
    change = item_of (get_or new k past_amounts) i -ℤ item_of (get_or old k past_amounts) i

    -- up to place n
    abbrev Adds : ℕ → List Posting → Type 0
    Adds n p = total_of (k + 1) (i + 1) p ≡ cond (ltb k n) change (pos 0)

    adds_in : (n : ℕ) (p : List Posting) → member_at units n ≡ true → Adds n p
        → Adds (n + 1) (p ++ unit_postings hour n (get_or old n past_amounts) (get_or new n past_amounts))
    adds_in n p t e =
        total_append (k + 1) (i + 1) p (unit_postings hour n (get_or old n past_amounts) (get_or new n past_amounts))
        ∙ ⊎_elim here other (same_or_not k n)
      where
        u : List Posting
        u = unit_postings hour n (get_or old n past_amounts) (get_or new n past_amounts)

        here : k ≡ n → total_of (k + 1) (i + 1) p +ℤ total_of (k + 1) (i + 1) u ≡ cond (ltb k (n + 1)) change (pos 0)
        here q =
            rw (e, q, le-ltb n n (omega arith), lt-ltb n (n + 1) (omega arith))
            (+ℤ_idl (total_of (n + 1) (i + 1) u) ∙ unit_total hour n (get_or old n past_amounts) (get_or new n past_amounts) i l)

        other : (k ≡ n → ⊥) → total_of (k + 1) (i + 1) p +ℤ total_of (k + 1) (i + 1) u ≡ cond (ltb k (n + 1)) change (pos 0)
        other apart =
            rw (e, unit_other hour n (get_or old n past_amounts) (get_or new n past_amounts) (k + 1) (i + 1) (λ r. apart (omega arith)), ← past k n apart)
            (+ℤ_idr (cond (ltb k n) change (pos 0)))

    adds_outside : (n : ℕ) (p : List Posting) → member_at units n ≡ false → Adds n p → Adds (n + 1) p
    adds_outside n p t e = e ∙ ap (λ (b : Bool). cond b change (pos 0)) (past k n (clash units m t))

    pub total_in : total_of (k + 1) (i + 1) (postings_of hour units old new)
        ≡ item_of (get_or new k past_amounts) i -ℤ item_of (get_or old k past_amounts) i
    unfolding postings_of
    total_in =
        places_ind hour units old new Adds (rw (le-ltb k 0 (omega arith)) (total_nothing (k + 1) (i + 1)))
        (λ n p a t e. adds_in n p t e) (λ n p a t e. adds_outside n p t e) places (omega arith)
        ∙ rw (lt-ltb k places (place_lt units k m))

  -- and to nothing for a unit outside the plant, or another item
  none_more : (unit item k : ℕ) (p : List Posting)
      → total_of unit item (unit_postings hour k (get_or old k past_amounts) (get_or new k past_amounts)) ≡ pos 0
      → total_of unit item p ≡ pos 0
      → total_of unit item (p ++ unit_postings hour k (get_or old k past_amounts) (get_or new k past_amounts)) ≡ pos 0
  none_more unit item k p e f = total_append unit item p (unit_postings hour k (get_or old k past_amounts) (get_or new k past_amounts)) ∙ rw (e, f)

  pub total_outside : (unit item : ℕ) → is_member units unit ≡ false → total_of unit item (postings_of hour units old new) ≡ pos 0
  unfolding postings_of member_at
  total_outside unit item out =
      places_ind hour units old new (λ n p. total_of unit item p ≡ pos 0) (total_nothing unit item)
      (λ k p a m h. none_more unit item k p
      (unit_other hour k (get_or old k past_amounts) (get_or new k past_amounts) unit item
      (λ e. let z : true ≡ false = sym m ∙ ap (is_member units) e ∙ out in let y : ◌≡◌ {A = ℕ} 0 1 = cc in omega arith)) h)
      (λ k p a m h. h) places (omega arith)

  pub total_item : (unit item : ℕ) → ((i : ℕ) → i < items → i + 1 ≡ item → ⊥) → total_of unit item (postings_of hour units old new) ≡ pos 0
  unfolding postings_of
  total_item unit item apart =
      places_ind hour units old new (λ n p. total_of unit item p ≡ pos 0) (total_nothing unit item)
      (λ k p a m h. none_more unit item k p (item_other hour k (get_or old k past_amounts) (get_or new k past_amounts) unit item apart) h)
      (λ k p a m h. h) places (omega arith)
