-- A line that keeps to the row of an offer makes an offer that holds: its numbers go in pairs, each in its range, and rise.
-- Assumes nothing.
use mathlib.Core.Path.{◌≡◌, refl, ap, sym, ◌∙◌}
use mathlib.Core.Bool.{true}
use Prim.Native.Nat.{ℕ, ◌+◌, ◌*◌, ◌/◌, ◌%◌, ◌≤◌, ◌<◌}
use native.Mathlib.Omega.{arith}
use lib.ListN.{get_or}
use Rattle.finite.proofs.Tables.{get_d_tabulate}
use Rattle.offer.specs.declared.Step.{Step}
use Rattle.offer.specs.Offer.{no_step, quantity_at, step_price, offer_holds}
use Rattle.offer.proofs.Steps.{Holds, holds_back}
use Rattle.text.specs.declared.Line.{Line}
use Rattle.values.proofs.Fits.{Fits, part_of}
use Rattle.values.proofs.Parts.{part_of_lem}
use Rattle.values.proofs.Pairs.{Over, rises_at}
use Rattle.lines.proofs.Reading.{Keeps, keeps_open}
use Rattle.sheet_lines.specs.Rows.{offer_row}
use Rattle.sheet_text.specs.Day.{step_by, offer_by}

module _ (l : Line) (keeps : Keeps offer_row l) where
  fits : Fits offer_row l
  unfolding offer_row
  fits = keeps_open offer_row l keeps (λ e. omega arith) (omega arith)

  count_some : 0 < l.count
  unfolding offer_row
  count_some = fits.some refl

  count_few : l.count ≤ 20
  unfolding offer_row
  count_few = fits.few

  count_even : l.count % 2 ≡ 0
  unfolding offer_row
  count_even = sym (part_of_lem 2 l.count (omega arith)) ∙ fits.groups

  at : ℕ → ℕ
  at i = get_or l.number i 0

  first_range : (s : ℕ) → s < l.count / 2 → (1 ≤ at (2 * s)) × (at (2 * s) ≤ 1000000)
  unfolding offer_row at
  first_range s h =
      let w = fits.within (2 * s) (omega (arith, count_even)) in
      let e : part_of 2 (2 * s) ≡ 0 = let m : 2 * s % 2 ≡ 0 = omega arith in part_of_lem 2 (2 * s) (omega arith) ∙ m in
      (rw e at w.least, rw e at w.most)

  second_range : (s : ℕ) → s < l.count / 2 → at (2 * s + 1) ≤ 10000000
  unfolding offer_row at
  second_range s h =
      let w = fits.within (2 * s + 1) (omega (arith, count_even)) in
      let e : part_of 2 (2 * s + 1) ≡ 1 = let m : (2 * s + 1) % 2 ≡ 1 = omega arith in part_of_lem 2 (2 * s + 1) (omega arith) ∙ m in
      rw e at w.most

  over : (s : ℕ) → s + 1 < l.count / 2 → Over l.number (2 * s + 2) (at (2 * s)) (at (2 * s + 1))
  unfolding offer_row at
  over s h =
      let o = rises_at l.number (l.count / 2) 0 0 0 (fits.in_order_lem refl) s h in
      let e : 0 + 2 * s ≡ 2 * s = omega arith in
      rw e at o

  quantity_is : (s : ℕ) → s < 10 → (quantity_at (offer_by l) s).0 ≡ at (2 * s)
  unfolding offer_by at
  quantity_is s h = ap (λ (t : Step). t.quantity.0) (get_d_tabulate 10 (step_by l) s no_step h)

  price_is : (s : ℕ) → s < 10 → step_price (offer_by l) s ≡ at (2 * s + 1)
  unfolding offer_by at
  price_is s h = ap (λ (t : Step). t.price) (get_d_tabulate 10 (step_by l) s no_step h)

  few : (s : ℕ) → s < l.count / 2 → s < 10
  few s h = omega (arith, count_few)

  facts : Holds (offer_by l)
  unfolding offer_by at
  facts =
      record {
        least = omega (arith, count_some, count_even);
        most = omega (arith, count_few);
        quantity_least = λ s h. rw (quantity_is s (few s h)) (first_range s h).0;
        quantity_most = λ s h. rw (quantity_is s (few s h)) (first_range s h).1;
        price_most = λ s h. rw (price_is s (few s h)) (second_range s h);
        quantity_rises = λ s h.
            let e : 2 * (s + 1) ≡ 2 * s + 2 = omega arith in
            rw (quantity_is s (omega (arith, few (s + 1) h)), quantity_is (s + 1) (few (s + 1) h), e) (over s h).first;
        price_rises = λ s h.
            let e : 2 * (s + 1) + 1 ≡ 2 * s + 2 + 1 = omega arith in
            rw (price_is s (omega (arith, few (s + 1) h)), price_is (s + 1) (few (s + 1) h), e) (over s h).second;
      }

  pub offer_read : offer_holds (offer_by l) ≡ true
  offer_read = holds_back (offer_by l) facts
