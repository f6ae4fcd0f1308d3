-- What is decided fits the places that are free: a call that posts passed 42, and five postings a unit are at most 40, the rows of a plan.
-- Where the count does not hold, 12 is met whatever the postings are.
-- Assumes nothing.
use Rattle.std.specs.Prelude.{Ok, Err}
use mathlib.Core.Path.{◌≡◌, refl, ap}
use mathlib.Core.Bool.{Bool, true, false, cond, not, ◌&&◌}
use mathlib.Core.List.{List, [], ◌∷◌, ◌++◌}
use Prim.Native.Nat.{ℕ, ◌+◌, ◌-◌, ◌*◌, ◌≤◌, min}
use native.Mathlib.Omega.{arith}
use borrow.Author.Tests.{ltb-false, not-false}
use lib.Count.{ones-le}
use lib.Dec.{eqb}
use lib.ListN.{length}
use Rattle.finite.proofs.Tests.{and_left, and_right}
use Rattle.units.specs.Units.{unit_count}
use Rattle.sheet.specs.declared.Sheet.{Sheet}
use Rattle.sheet.specs.Ranges.{sheet_holds}
use Rattle.sheet.proofs.InRange.{in_range_lem}
use Rattle.settlement.specs.declared.Amounts.{Amounts}
use Rattle.state.specs.declared.Book.{Book}
use Rattle.state.specs.Ranges.{book_holds}
use Rattle.postings.specs.Journal.{count_holds}
use Rattle.postings.specs.Plan.{plan_of}
use Rattle.postings.proofs.Posted.{plan_length}
use Rattle.ledger.specs.declared.Refusal.TheVariants.{SheetRange, BookRange, HourStands, HourOpen}
use Rattle.ledger.specs.Answers.{Verdict}
use Rattle.ledger.specs.Calls.{Row, row, verdict, is_settled, held_kwh, short_of, text_rows, take_rows, release_rows, move_rows, record_rows, void_rows, request_rows, rows_of, by_verdict, refused_with, changed_to, recorded_in, voided_at, with_held, accepted_in, decided, request_decided, book_fits, Request, Decision}

abbrev FitsIn : ℕ → Decision → Type 0
FitsIn places d = (d.n ≤ 40) × (d.n ≤ places - d.at) × (d.n ≤ length d.plan.row)

-- where no row's condition holds
pub passed : (r : Row) (rs : List Row) → verdict (r ∷ rs) ≡ Ok tt → (r.holds ≡ false) × (verdict rs ≡ Ok tt)
unfolding verdict
passed r rs e = by r.holds refl e
  where
    by : (t : Bool) → r.holds ≡ t → cond t (Err r.refusal) (verdict rs) ≡ Ok tt → (r.holds ≡ false) × (verdict rs ≡ Ok tt)
    by true h p = absurd (let z : ◌≡◌ {A = ℕ} 0 1 = cc in omega arith)
    by false h p = (h, p)

pub rest : (xs ys : List Row) → verdict (xs ++ ys) ≡ Ok tt → verdict ys ≡ Ok tt
rest [] ys e = e
rest (x ∷ xs) ys e = rest xs ys (passed x (xs ++ ys) e).1

-- the postings matter only where the count holds
pub fits_by : (s : Sheet) (b : Book) (count places : ℕ) (x y : Bool) → (count_holds count places ≡ true → x ≡ y)
    → book_fits s b count places x ≡ book_fits s b count places y
fits_by s b count places x y h = ap (λ (t : Bool). book_holds s b && t) (by (count_holds count places) refl)
  where
    by : (t : Bool) → count_holds count places ≡ t → (count_holds count places && x) ≡ (count_holds count places && y)
    by true e = ap (λ (z : Bool). count_holds count places && z) (h e)
    by false e = rw e

-- 12 in its parts
module _ (s : Sheet) (b : Book) (count places : ℕ) (posted : Bool) (u : book_fits s b count places posted ≡ true) where
  pub book_holds_lem : book_holds s b ≡ true
  book_holds_lem = and_left (book_holds s b) (count_holds count places && posted) u

  pub count_holds_lem : count_holds count places ≡ true
  count_holds_lem = and_left (count_holds count places) posted (and_right (book_holds s b) (count_holds count places && posted) u)

module _ (s : Sheet) (b : Book) (q : Request) (count places : ℕ) where
  posted_fits : sheet_holds s ≡ true → short_of s.units count places ≡ false → (hour : ℕ) (old new : List Amounts)
      → (5 * unit_count s.units ≤ 40) × (5 * unit_count s.units ≤ places - count)
      × (5 * unit_count s.units ≤ length (plan_of hour s.units old new).row)
  posted_fits t e hour old new =
      let some = ones-le 8 s.units (omega (arith, (in_range_lem s t).units_most)) in
      let free = ltb-false (min places 100000 - count) (5 * unit_count s.units) e in
      (omega (arith, some), omega (arith, free), omega (arith, some, plan_length hour s.units old new))

  pub record_short : (r : Row) → verdict (record_rows s q.read r count places) ≡ Ok tt → short_of s.units count places ≡ false
  record_short r e =
      let a = passed _ _ e in
      let c = passed _ _ a.1 in
      let d = passed _ _ c.1 in
      let f = passed _ _ d.1 in
      (passed _ _ f.1).0

  pub void_short : verdict (void_rows s b q.hour count places) ≡ Ok tt → short_of s.units count places ≡ false
  void_short e =
      let a = passed _ _ e in
      let c = passed _ _ a.1 in
      (passed _ _ c.1).0

  module _ (t : sheet_holds s ≡ true) where
    by_kind : (k1 k2 k3 k4 k5 : Bool)
        → verdict
        (cond k1 (take_rows s b q.hour q.unit q.kwh)
        (cond k2 (release_rows s b q.hour q.unit q.kwh)
        (cond k3 (move_rows s b q.hour q.unit q.to q.kwh)
        (cond k4 (text_rows q.answer ++ record_rows s q.read (row HourStands (is_settled b q.read.hour)) count places)
        (cond k5 (text_rows q.answer ++ record_rows s q.read (row HourOpen (not (is_settled b q.read.hour))) count places)
        (void_rows s b q.hour count places))))))
        ≡ Ok tt
        → FitsIn places
        (cond k1 (changed_to (with_held b q.hour q.unit (held_kwh b q.hour q.unit + q.kwh)) count)
        (cond k2 (changed_to (with_held b q.hour q.unit (held_kwh b q.hour q.unit - q.kwh)) count)
        (cond k3
        (changed_to
        (with_held (with_held b q.hour q.unit (held_kwh b q.hour q.unit - q.kwh)) q.hour q.to (held_kwh b q.hour q.to + q.kwh))
        count)
        (cond k4 (recorded_in s b q count)
        (cond k5 (recorded_in s b q count) (voided_at s b q.hour count))))))
    by_kind true k2 k3 k4 k5 e = (omega arith, omega arith, omega arith)
    by_kind false true k3 k4 k5 e = (omega arith, omega arith, omega arith)
    by_kind false false true k4 k5 e = (omega arith, omega arith, omega arith)
    by_kind false false false true k5 e = posted_fits t (record_short _ (rest (text_rows q.answer) _ e)) _ _ _
    by_kind false false false false true e = posted_fits t (record_short _ (rest (text_rows q.answer) _ e)) _ _ _
    by_kind false false false false false e = posted_fits t (void_short e) _ _ _

    accepted_fits : verdict (request_rows s b q count places) ≡ Ok tt → FitsIn places (accepted_in s b q count)
    unfolding request_rows accepted_in
    accepted_fits e = by_kind (eqb q.kind 1) (eqb q.kind 2) (eqb q.kind 3) (eqb q.kind 4) (eqb q.kind 5) e

  decided_in : (posted : Bool) → FitsIn places (decided s b q count places posted)
  unfolding decided
  decided_in posted = by (verdict (rows_of s b q count places posted)) refl
    where
      by : (v : Verdict) → verdict (rows_of s b q count places posted) ≡ v → FitsIn places (by_verdict v (accepted_in s b q count) (refused_with b count q.start))
      by (Ok tt) e =
          let a = passed _ _ e in
          let c = passed _ _ a.1 in
          accepted_fits (not-false (sheet_holds s) a.0) c.1
      by (Err r) e = (omega arith, omega arith, omega arith)

  pub decided_fits : (posted : Bool) → ((decided s b q count places posted).n ≤ 40) × ((decided s b q count places posted).n ≤ places - (decided s b q count places posted).at)
  decided_fits posted = let d = decided_in posted in (d.0, d.1)

  pub decided_rows : (posted : Bool) → (decided s b q count places posted).n ≤ length (decided s b q count places posted).plan.row
  decided_rows posted = (decided_in posted).2

  pub decided_same : (x y : Bool) → (count_holds count places ≡ true → x ≡ y) → decided s b q count places x ≡ decided s b q count places y
  unfolding decided
  decided_same x y h =
      ap (λ (t : Bool). by_verdict (verdict (row SheetRange (not (sheet_holds s)) ∷ row BookRange (not t) ∷ request_rows s b q count places)) (accepted_in s b q count) (refused_with b count q.start)) (fits_by s b count places x y h)

  -- where it is known whether 9 and 12 hold
  pub decided_9 : (posted : Bool) → sheet_holds s ≡ false → refused_with b count q.start SheetRange ≡ decided s b q count places posted
  unfolding decided verdict
  decided_9 posted e = simp e

  pub decided_12 : (posted : Bool) → sheet_holds s ≡ true → book_fits s b count places posted ≡ false → refused_with b count q.start BookRange ≡ decided s b q count places posted
  unfolding decided verdict
  decided_12 posted t e = simp (t, e)

  pub decided_on_lem : (posted : Bool) → sheet_holds s ≡ true → book_fits s b count places posted ≡ true → request_decided s b q count places ≡ decided s b q count places posted
  unfolding decided verdict
  decided_on_lem posted t e = simp (t, e)
