-- 12 holds of the book and the journal exactly where it holds of a ledger they agree with: part by part.
-- Assumes nothing.
use mathlib.Core.Path.{◌≡◌, refl, ap, sym, ◌∙◌}
use mathlib.Core.Bool.{Bool, true, false, cond, ◌&&◌}
use mathlib.Core.List.{List, [], ◌∷◌}
use Prim.Native.Nat.{ℕ, ◌+◌, ◌-◌, ◌≤◌}
use native.Mathlib.Omega.{arith}
use borrow.Author.Tests.{leb-true, le-leb, eqb-true, eq-eqb}
use lib.Dec.{leb, eqb}
use lib.IntN.{nat_abs}
use lib.ListN.{length, take}
use Rattle.finite.specs.Finite.{every}
use Rattle.finite.proofs.Tests.{and_left, and_right, and_both, every_at, every_all}
use Rattle.units.specs.Units.{member_at}
use Rattle.offer.specs.Offer.{last_quantity}
use Rattle.sheet.specs.declared.Sheet.{Sheet}
use Rattle.sheet.specs.Ranges.{unit_at, offer_at}
use Rattle.state.specs.Ranges.{book_holds, limit_at}
use Rattle.state.proofs.InRange.{BookInRange, book_in_range, book_holds_back, limit_in, limit_outside}
use Rattle.postings.specs.declared.Posting.{Posting}
use Rattle.postings.specs.Journal.{count_holds, posted_hold}
use Rattle.ledger.specs.Ledger.{Kept, none, kept, Ledger, held_fits, last_offer, amount_in, energy_of, postings_fit, ledger_fits}
use Rattle.ledger.specs.Calls.{State}
use Rattle.ledger.specs.Agrees.{mark_of, Agrees}

pub alike : (a b : Bool) → (a ≡ true → b ≡ true) → (b ≡ true → a ≡ true) → a ≡ b
alike true b f g = sym (f refl)
alike false true f g = g refl
alike false false f g = refl

posted_same : (ps : List Posting) → posted_hold ps ≡ postings_fit ps
unfolding posted_hold postings_fit
posted_same [] = refl
posted_same (p ∷ ps) = ap (λ (b : Bool). leb (nat_abs p.amount) 1000000000000 && b) (posted_same ps)

mark_small : (k : Kept) → mark_of k ≤ 1
mark_small none = omega arith
mark_small (kept r) = omega arith

module _ (sheet : Sheet) (room : ℕ) (st : State) (l : Ledger) (a : Agrees sheet room st l) where
  abbrev held : ℕ → ℕ → ℕ
  held h k = l.commitment (h + 1) (k + 1)

  -- one commitment, both ways
  held_there : (h k : ℕ) → held h k ≤ (limit_at sheet h k).0 → held_fits sheet l h k ≡ true
  held_there h k le = by (member_at sheet.units k) refl
    where
      back : h + 1 - 1 ≡ h
      back = omega arith

      by : (t : Bool) → member_at sheet.units k ≡ t → cond t (leb (held h k) (last_offer sheet (h + 1) k)) (eqb (held h k) 0) ≡ true
      by true m =
          let z : held h k ≤ (last_quantity (offer_at (unit_at sheet.unit k) h)).0 = rw (limit_in sheet h k m) at le in
          le-leb (held h k) (last_offer sheet (h + 1) k) (rw (last_offer, back) z)
      by false m = eq-eqb (held h k) 0 (let z : held h k ≤ 0 = rw (limit_outside sheet h k m) at le in omega arith)

  held_back : (h k : ℕ) → held_fits sheet l h k ≡ true → held h k ≤ (limit_at sheet h k).0
  held_back h k = by (member_at sheet.units k) refl
    where
      back : h + 1 - 1 ≡ h
      back = omega arith

      by : (t : Bool) → member_at sheet.units k ≡ t → cond t (leb (held h k) (last_offer sheet (h + 1) k)) (eqb (held h k) 0) ≡ true
          → held h k ≤ (limit_at sheet h k).0
      by true m e =
          let z : held h k ≤ last_offer sheet (h + 1) k = leb-true _ _ e in
          rw (limit_in sheet h k m) (rw (last_offer, back) at z)
      by false m e = let z : held h k ≡ 0 = eqb-true _ _ e in omega arith

  there : (book_holds sheet st.book && (count_holds st.count (length st.journal) && posted_hold (take st.count st.journal))) ≡ true
      → ledger_fits sheet room l ≡ true
  unfolding count_holds
  there t =
      let n = st.count in
      let count = leb n (length st.journal) && leb n 100000 in
      let posted = posted_hold (take n st.journal) in
      let b = book_in_range sheet st.book (and_left (book_holds sheet st.book) (count && posted) t) in
      let rest = and_right (book_holds sheet st.book) (count && posted) t in
      let counts = and_left count posted rest in
      let c = a.counted in
      and_both _ _ (every_all 24 (λ h. every 8 (held_fits sheet l h)) (λ h lh. every_all 8 (held_fits sheet l h) (λ k lk. held_there h k (rw (← a.commitments h k lh lk) (b.commitment h k lh lk)))))
      (and_both _ _
      (and_both _ _ (le-leb (length l.postings) room (omega (arith, a.fits))) (le-leb (length l.postings) 100000 (omega (arith, leb-true n 100000 (and_right (leb n (length st.journal)) (leb n 100000) counts)))))
      (and_both _ _
      (and_both _ _
      (every_all 24 (λ h. every 8 (λ k. every 5 (λ i. leb (nat_abs (amount_in sheet l (h + 1) k i)) 100000000000)))
      (λ h lh. every_all 8 (λ k. every 5 (λ i. leb (nat_abs (amount_in sheet l (h + 1) k i)) 100000000000))
      (λ k lk. every_all 5 (λ i. leb (nat_abs (amount_in sheet l (h + 1) k i)) 100000000000)
      (λ i li. le-leb (nat_abs (amount_in sheet l (h + 1) k i)) 100000000000 (rw (← a.amounts h k i lh lk li) (b.amount h k i lh lk li))))))
      (sym (posted_same l.postings) ∙ (ap posted_hold (sym a.entries) ∙ and_right count posted rest)))
      (every_all 24 (λ h. every 8 (λ k. leb (energy_of sheet l (h + 1) k) 80000000000))
      (λ h lh. every_all 8 (λ k. leb (energy_of sheet l (h + 1) k) 80000000000) (λ k lk. le-leb (energy_of sheet l (h + 1) k) 80000000000 (rw (← a.energies h k lh lk) (b.energy h k lh lk)))))))

  back_again : ledger_fits sheet room l ≡ true
      → (book_holds sheet st.book && (count_holds st.count (length st.journal) && posted_hold (take st.count st.journal))) ≡ true
  unfolding count_holds
  back_again t =
      let n = st.count in
      let c = a.counted in
      let held_rows = every 24 (λ h. every 8 (held_fits sheet l h)) in
      let counts = leb (length l.postings) room && leb (length l.postings) 100000 in
      let amount_rows = every 24 (λ h. every 8 (λ k. every 5 (λ i. leb (nat_abs (amount_in sheet l (h + 1) k i)) 100000000000))) in
      let posted = postings_fit l.postings in
      let energy_rows = every 24 (λ h. every 8 (λ k. leb (energy_of sheet l (h + 1) k) 80000000000)) in
      let p = and_left held_rows (counts && ((amount_rows && posted) && energy_rows)) t in
      let q = and_right held_rows (counts && ((amount_rows && posted) && energy_rows)) t in
      let q1 = and_left counts ((amount_rows && posted) && energy_rows) q in
      let q2 = and_right counts ((amount_rows && posted) && energy_rows) q in
      let q3 = and_left (amount_rows && posted) energy_rows q2 in
      let amounts_t = and_left amount_rows posted q3 in
      let posted_t = and_right amount_rows posted q3 in
      let energy_t = and_right (amount_rows && posted) energy_rows q2 in
      let facts : BookInRange sheet st.book =
      record {
        commitment = λ h k lh lk. rw (a.commitments h k lh lk) (held_back h k (every_at 8 (held_fits sheet l h) (every_at 24 (λ h. every 8 (held_fits sheet l h)) p h lh) k lk));
        mark = λ h lh. rw (a.marks h lh) (mark_small (l.standing (h + 1)));
        energy = λ h k lh lk. rw (a.energies h k lh lk)
            (leb-true _ _ (every_at 8 (λ k. leb (energy_of sheet l (h + 1) k) 80000000000) (every_at 24 (λ h. every 8 (λ k. leb (energy_of sheet l (h + 1) k) 80000000000)) energy_t h lh) k lk));
        amount = λ h k i lh lk li. rw (a.amounts h k i lh lk li)
            (leb-true _ _ (every_at 5 (λ i. leb (nat_abs (amount_in sheet l (h + 1) k i)) 100000000000)
            (every_at 8 (λ k. every 5 (λ i. leb (nat_abs (amount_in sheet l (h + 1) k i)) 100000000000))
            (every_at 24 (λ h. every 8 (λ k. every 5 (λ i. leb (nat_abs (amount_in sheet l (h + 1) k i)) 100000000000))) amounts_t h lh) k lk) i li));
      } in
      and_both _ _ (book_holds_back sheet st.book facts)
      (and_both _ _
      (and_both _ _ (le-leb n (length st.journal) (omega (arith, a.fits, a.places_are)))
      (le-leb n 100000 (omega (arith, leb-true (length l.postings) 100000 (and_right (leb (length l.postings) room) (leb (length l.postings) 100000) q1)))))
      (ap posted_hold a.entries ∙ (posted_same l.postings ∙ posted_t)))

  pub fits_same : (book_holds sheet st.book && (count_holds st.count (length st.journal) && posted_hold (take st.count st.journal))) ≡ ledger_fits sheet room l
  fits_same = alike _ _ there back_again
