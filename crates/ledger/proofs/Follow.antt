-- Take, release and move on a book and a journal that agree with a ledger: the rows hold alike, and an accepted call leaves them in agreement.
-- Assumes nothing.
use mathlib.Core.Path.{◌≡◌, refl, ap, sym, ◌∙◌, subst}
use mathlib.Core.Bool.{Bool, true, false, cond, not, ◌&&◌, ◌||◌}
use mathlib.Core.List.{List, []}
use Prim.Native.Nat.{ℕ, ◌+◌, ◌-◌, ◌≤◌, ◌<◌}
use native.Mathlib.Decide.{ℕ_discrete}
use native.Mathlib.Omega.{arith}
use borrow.Author.Tests.{lt-ltb, le-ltb, leb-true, leb-false, eq-eqb, ne_eqb}
use lib.Dec.{ltb, leb, eqb}
use lib.ListN.{length, get_or, take, drop}
use lib.Seq.{paste, paste-zero}
use Rattle.energy.specs.declared.HubKwh.{HubKwh}
use Rattle.energy.specs.declared.HubGrains.{HubGrains}
use Rattle.settlement.specs.declared.Amounts.{Amounts}
use Rattle.state.specs.Sizes.{entry_of}
use Rattle.units.specs.Units.{member_at, is_member}
use Rattle.units.proofs.Laws.{member, member_place}
use Rattle.sheet.specs.declared.Sheet.{Sheet}
use Rattle.state.specs.declared.Book.{Book}
use Rattle.state.specs.Book.{Sized, commitment_at, item_of, no_grains, past_amounts}
use Rattle.state.proofs.Writing.{commitment_same, commitment_other}
use Rattle.state.proofs.InRange.{limit_in}
use Rattle.postings.specs.declared.Posting.{Posting}
use Rattle.postings.specs.Plan.{padded}
use Rattle.ledger.specs.declared.Refusal.{Refusal}
use Rattle.ledger.specs.Numbers.{refusal_number, refusal_line, reply_of}
use Rattle.ledger.specs.Ledger.{Kept, none, kept, Ledger, Outcome, stands, energy_for, amount_for, last_offer, over_offer, changed, bad_hour as bad_hour_of, with_held as with_held_of}
use Rattle.ledger.specs.Calls.{State, bad_hour, held_kwh, last_kwh, is_settled, refused_with, changed_to, with_held, Decision}
use Rattle.ledger.specs.Agrees.{mark_of, Agrees}
use Rattle.ledger.proofs.Rows.{refused_by}
use Rattle.ledger.proofs.Held.{held_at}

-- the state after a decision
abbrev pub after : State → Decision → State
after st d = record { book = d.book; count = d.count; journal = paste st.journal d.at d.plan.row d.n }

-- where nothing is posted, the journal stays
pub unposted : (st : State) (b : Book) → after st (changed_to b st.count) ≡ record { book = b; count = st.count; journal = st.journal }
unposted st b = ap (λ (j : List Posting). record { book = b; count = st.count; journal = j }) (sym (paste-zero st.journal 0 (padded [])))

-- a decision answers as the ledger does, and leaves book and journal in agreement with it
pub record Follows (sheet : Sheet) (room : ℕ) (st : State) (d : Decision) (o : Outcome) : Type 0 where
  pub answers : reply_of d.answer d.place ≡ o.reply
  pub agrees : Agrees sheet room (after st d) o.ledger
  pub onward : st.count ≤ d.count
  pub free : drop d.count (after st d).journal ≡ drop d.count st.journal

-- both tests of an hour's range
pub hour_same : (hour : ℕ) → bad_hour hour ≡ bad_hour_of hour
hour_same hour = by (leb 1 hour) refl (leb hour 24) refl
  where
    low : (t : Bool) → leb 1 hour ≡ t → ltb hour 1 ≡ not t
    low true e = le-ltb hour 1 (leb-true 1 hour e)
    low false e = let n : hour < 1 = leb-false 1 hour e in lt-ltb hour 1 n

    high : (t : Bool) → leb hour 24 ≡ t → ltb 24 hour ≡ not t
    high true e = le-ltb 24 hour (leb-true hour 24 e)
    high false e = let n : 24 < hour = leb-false hour 24 e in lt-ltb 24 hour n

    by : (t : Bool) → leb 1 hour ≡ t → (u : Bool) → leb hour 24 ≡ u → (ltb hour 1 || ltb 24 hour) ≡ not (leb 1 hour && leb hour 24)
    by t e u f = rw (low t e, high u f, e, f) (both t u)
      where
        both : (t u : Bool) → (not t || not u) ≡ not (t && u)
        both true u = refl
        both false u = refl

marked : (k : Kept) → eqb (mark_of k) 1 ≡ stands k
marked none = refl
marked (kept r) = refl

module _ (sheet : Sheet) (room : ℕ) (st : State) (l : Ledger) (a : Agrees sheet room st l) where
  -- a refused call changes nothing
  pub stays : (start : ℕ) (r : Refusal) → Follows sheet room st (refused_with st.book st.count start r) (refused_by l start (refusal_number r) (refusal_line r))
  stays start r =
      record {
        answers = refl;
        agrees = subst (λ (j : List Posting). Agrees sheet room (record { book = st.book; count = st.count; journal = j }) l) (paste-zero st.journal 0 (padded [])) a;
        onward = omega arith;
        free = ap (λ (j : List Posting). drop st.count j) (sym (paste-zero st.journal 0 (padded [])));
      }

  module _ (hour : ℕ) (low : 1 ≤ hour) (high : hour ≤ 24) where
    back : hour - 1 + 1 ≡ hour
    back = omega arith

    pub settled_same : is_settled st.book hour ≡ stands (l.standing hour)
    settled_same = ap (λ (m : ℕ). eqb m 1) (a.marks (hour - 1) (omega arith) ∙ ap (λ (n : ℕ). mark_of (l.standing n)) back) ∙ marked (l.standing hour)

    module _ (unit : ℕ) (in-plant : is_member sheet.units unit ≡ true) where
      one : (1 ≤ unit) × (unit ≤ 8)
      one = let m = member sheet.units unit in-plant in (m.least, m.most)

      pub held_same : held_kwh st.book hour unit ≡ l.commitment hour unit
      held_same =
          let e : unit - 1 + 1 ≡ unit = omega (arith, one.0) in
          a.commitments (hour - 1) (unit - 1) (omega arith) (omega (arith, one))
          ∙ (ap (λ (n : ℕ). l.commitment n (unit - 1 + 1)) back ∙ ap (l.commitment hour) e)

      pub over_same : (kwh : ℕ) → ltb (last_kwh sheet hour unit) (held_kwh st.book hour unit + kwh) ≡ over_offer sheet l hour unit kwh
      over_same kwh =
          let m : member_at sheet.units (unit - 1) ≡ true = member_place sheet.units unit one.0 ∙ in-plant in
          ap (λ (q : HubKwh). ltb q.0 (held_kwh st.book hour unit + kwh)) (limit_in sheet (hour - 1) (unit - 1) m)
          ∙ ap (λ (n : ℕ). ltb (last_offer sheet hour (unit - 1)) (n + kwh)) held_same

  -- an open hour's energies and amounts are 0, whatever its commitments
  open_energy : (s : Kept) (f g : ℕ → ℕ) (k : ℕ) → stands s ≡ false → energy_for sheet s f k ≡ energy_for sheet s g k
  open_energy none f g k e = refl
  open_energy (kept r) f g k e = absurd (let z : ◌≡◌ {A = ℕ} 0 1 = cc in omega arith)

  open_amount : (s : Kept) (f g : ℕ → ℕ) (k i : ℕ) → stands s ≡ false → amount_for sheet s f k i ≡ amount_for sheet s g k i
  open_amount none f g k i e = refl
  open_amount (kept r) f g k i e = absurd (let z : ◌≡◌ {A = ℕ} 0 1 = cc in omega arith)

  -- commitments of an open hour change, in the book and in the ledger
  pub changes : (b : Book) (g : ℕ → ℕ → ℕ) (hour : ℕ) → stands (l.standing hour) ≡ false → ((h : ℕ) → (h ≡ hour → ⊥) → g h ≡ l.commitment h)
      → Sized b → b.mark ≡ st.book.mark → b.energy ≡ st.book.energy → b.amounts ≡ st.book.amounts
      → ((h k : ℕ) → h < 24 → k < 8 → (commitment_at b h k).0 ≡ g (h + 1) (k + 1))
      → Follows sheet room st (changed_to b st.count) (changed l g)
  changes b g hour o same sized marks energy amounts held =
      record {
        answers = refl;
        agrees =
            record {
              sized = sized;
              places_are = ap length (sym (paste-zero st.journal 0 (padded []))) ∙ a.places_are;
              counted = a.counted;
              fits = a.fits;
              entries = ap (λ (j : List Posting). take st.count j) (sym (paste-zero st.journal 0 (padded []))) ∙ a.entries;
              commitments = held;
              marks = λ h lh. ap (λ (m : List ℕ). get_or m h 0) marks ∙ a.marks h lh;
              energies = λ h k lh lk. ap (λ (e : List HubGrains). (get_or e (entry_of h k) no_grains).0) energy ∙ (a.energies h k lh lk ∙ energy_kept (h + 1) k (ℕ_discrete (h + 1) hour));
              amounts = λ h k i lh lk li. ap (λ (e : List Amounts). item_of (get_or e (entry_of h k) past_amounts) i) amounts ∙ (a.amounts h k i lh lk li ∙ amount_kept (h + 1) k i (ℕ_discrete (h + 1) hour));
            };
        onward = omega arith;
        free = ap (λ (j : List Posting). drop st.count j) (sym (paste-zero st.journal 0 (padded [])));
      }
    where
      energy_kept : (h k : ℕ) → Dec (h ≡ hour) → energy_for sheet (l.standing h) (l.commitment h) k ≡ energy_for sheet (l.standing h) (g h) k
      energy_kept h k (yes e) = open_energy (l.standing h) (l.commitment h) (g h) k (ap (λ (n : ℕ). stands (l.standing n)) e ∙ o)
      energy_kept h k (no d) = ap (λ (f : ℕ → ℕ). energy_for sheet (l.standing h) f k) (sym (same h d))

      amount_kept : (h k i : ℕ) → Dec (h ≡ hour) → amount_for sheet (l.standing h) (l.commitment h) k i ≡ amount_for sheet (l.standing h) (g h) k i
      amount_kept h k i (yes e) = open_amount (l.standing h) (l.commitment h) (g h) k i (ap (λ (n : ℕ). stands (l.standing n)) e ∙ o)
      amount_kept h k i (no d) = ap (λ (f : ℕ → ℕ). amount_for sheet (l.standing h) f k i) (sym (same h d))

-- one commitment written, in the book and in the ledger
pub written : (b : Book) (f : ℕ → ℕ → ℕ) (hour unit x : ℕ) → Sized b → 1 ≤ hour → hour ≤ 24 → 1 ≤ unit → unit ≤ 8
    → ((h k : ℕ) → h < 24 → k < 8 → (commitment_at b h k).0 ≡ f (h + 1) (k + 1))
    → (h k : ℕ) → h < 24 → k < 8 → (commitment_at (with_held b hour unit x) h k).0 ≡ with_held_of f hour unit x (h + 1) (k + 1)
written b f hour unit x sized low high one eight same h k lh lk = by (ℕ_discrete (h + 1) hour) (ℕ_discrete (k + 1) unit)
  where
    at_other : ((h ≡ hour - 1 → k ≡ unit - 1 → ⊥)) → (eqb (h + 1) hour && eqb (k + 1) unit) ≡ false
        → (commitment_at (with_held b hour unit x) h k).0 ≡ with_held_of f hour unit x (h + 1) (k + 1)
    at_other d e =
        ap (λ (q : HubKwh). q.0) (commitment_other b (hour - 1) (unit - 1) (record { 0 = x }) h k (omega arith) lk d)
        ∙ (same h k lh lk ∙ sym (held_at f hour unit x (h + 1) (k + 1) ∙ ap (λ (t : Bool). cond t x (f (h + 1) (k + 1))) e))

    by : Dec (h + 1 ≡ hour) → Dec (k + 1 ≡ unit) → (commitment_at (with_held b hour unit x) h k).0 ≡ with_held_of f hour unit x (h + 1) (k + 1)
    by (yes e) (yes d) =
        let p : h ≡ hour - 1 = omega arith in
        let q : k ≡ unit - 1 = omega arith in
        rw (p, q)
        (ap (λ (q : HubKwh). q.0) (commitment_same b (hour - 1) (unit - 1) (record { 0 = x }) sized (omega arith) (omega arith))
        ∙ sym (held_at f hour unit x (hour - 1 + 1) (unit - 1 + 1)
        ∙ simp (eq-eqb (hour - 1 + 1) hour (omega arith), eq-eqb (unit - 1 + 1) unit (omega arith))))
    by (yes e) (no d) = at_other (λ p q. d (omega arith)) (simp (eq-eqb _ _ e, ne_eqb _ _ d))
    by (no d) u = at_other (λ p q. d (omega arith)) (simp (ne_eqb _ _ d))
