-- A take, release or move on the book is what the rows of its call say: where 10 and 11 pass, the entries that are read and stored are those of its hour and
-- units, and where they do not, the rest is not looked at.
-- Assumes nothing.
use Rattle.std.specs.Prelude.{Ok, Err}
use mathlib.Core.Path.{◌≡◌, refl, sym, ◌∙◌, ap}
use mathlib.Core.Bool.{Bool, true, false}
use mathlib.Core.List.{List, ◌∷◌}
use Prim.Native.Nat.{ℕ, ◌+◌, ◌-◌, ◌/◌, ◌%◌, ◌≤◌, ◌<◌}
use native.Mathlib.Omega.{arith}
use borrow.Author.Tests.{not-false}
use lib.Dec.{eqb}
use lib.ListN.{length}
use lib.Seq.{paste-zero, set-set, get_or-set_same, get_or-set_other}
use Rattle.energy.specs.declared.HubKwh.{HubKwh}
use Rattle.units.specs.Units.{is_member}
use Rattle.units.proofs.Laws.{member}
use Rattle.sheet.specs.declared.Sheet.{Sheet}
use Rattle.state.specs.declared.Book.{Book}
use Rattle.state.specs.Sizes.{places, entries, entry_of}
use Rattle.state.specs.Book.{no_kwh, mark_at, settled_mark, with_commitment}
use Rattle.state.specs.Ranges.{limit_at, book_holds}
use Rattle.state.proofs.Entries.{entry_back, entry_hour, entry_place}
use Rattle.state.proofs.InRange.{book_in_range}
use Rattle.postings.specs.declared.Posting.{Posting}
use Rattle.ledger.specs.declared.Refusal.{Refusal}
use Rattle.ledger.specs.Answers.{Answer, Verdict}
use Rattle.ledger.specs.Ledger.{take, release, move}
use Rattle.ledger.specs.Calls.{Row, row, verdict, bad_hour, is_settled, held_kwh, last_kwh, with_held, take_tests, release_tests, move_tests, by_verdict, changed_to, no_plan, refused_with, request_rows, accepted_in}
use Rattle.ledger.proofs.Passed.{from_known, to_known}
use Rattle.decisions.specs.declared.CommitmentKind.{CommitmentKind}
use Rattle.decisions.specs.declared.CommitmentKind.TheVariants.{Take, Release, Move}
use Rattle.decisions.specs.declared.CommitmentCall.{CommitmentCall}
use Rattle.decisions.specs.declared.CommitmentChange.{CommitmentChange}
use Rattle.decisions.specs.Calls.{commitment_of}
use Rattle.decisions.specs.Changes.{hour_index, entry_index, take_change, release_change, move_change, change_for, change_of}
use Rattle.decisions.proofs.Changes.{take_tests_lem, release_tests_lem, move_tests_lem, in_hour, entry_in, entry_lt, Passed, changed_passed}
use Rattle.commitments.specs.Changed.{kwh_in, with_kwh, shifted, Changed, changed_by, verdict_in, changed_in}
use Rattle.engine.specs.Journal.{Performed, done_by}
use Rattle.engine.specs.Carried.{left, carried}

-- what follows two rows matters only where both pass
gated : (a b : Bool) (r q : Refusal) (xs ys : List Row) → (a ≡ false → b ≡ false → xs ≡ ys) → verdict (row r a ∷ row q b ∷ xs) ≡ verdict (row r a ∷ row q b ∷ ys)
unfolding verdict
gated true b r q xs ys g = refl
gated false true r q xs ys g = refl
gated false false r q xs ys g = ap verdict (g refl refl)

-- two stores of commitments at one entry, and at two
module _ (b : Book) (i : ℕ) where
  shifted_one : (out into : ℕ) → i < length b.commitment → shifted b i i out into ≡ with_kwh b i (kwh_in b i - out + into)
  shifted_one out into l =
      let n = kwh_in b i - out in
      ap (λ (k : ℕ). with_kwh (with_kwh b i n) i (k + into)) (ap (λ (x : HubKwh). x.0) (get_or-set_same b.commitment i (record { 0 = n }) no_kwh l)) ∙ rw set-set

  shifted_two : (j out into : ℕ) → (j ≡ i → ⊥) → shifted b i j out into ≡ with_kwh (with_kwh b i (kwh_in b i - out)) j (kwh_in b j + into)
  shifted_two j out into d =
      let n = kwh_in b i - out in
      ap (λ (k : ℕ). with_kwh (with_kwh b i n) j (k + into)) (ap (λ (x : HubKwh). x.0) (get_or-set_other b.commitment i j (record { 0 = n }) no_kwh d))

-- two units of the plant have two entries
entries_apart : (h j k : ℕ) → 1 ≤ j → 1 ≤ k → (j ≡ k → ⊥) → entry_of h (k - 1) ≡ entry_of h (j - 1) → ⊥
entries_apart h j k a b d e = d (omega arith)

-- a change that is tested and stored as its call says
module _ (s : Sheet) (b b' : Book) (count : ℕ) (l : List Posting) (a : Answer) (long : length b.commitment ≡ entries) (fits : book_holds s b ≡ true) where
  abbrev Is : CommitmentChange → Type 0
  Is x = ◌≡◌ {A = Changed} (record { book = b'; answer = a }) (changed_in s b x)

  abbrev leaves : Performed
  leaves = left (record { answer = a; place = 0; count = count }) b' l

  -- by the verdict
  by_change : (from to out into : ℕ) (after : Book) (v : Verdict) → ◌≡◌ {A = Changed} (record { book = b'; answer = a }) (changed_by v b from to out into)
      → (v ≡ Ok tt → shifted b from to out into ≡ after)
      → leaves ≡ done_by l (by_verdict v (changed_to after count) (refused_with b count 0))
  by_change from to out into after (Ok tt) e stored =
      λ i. record {
        outcome = record { answer = (e i).answer; place = 0; count = count; book = (ap (λ (x : Changed). x.book) e ∙ stored refl) i };
        list = paste-zero l 0 no_plan.row i;
      }
  by_change from to out into after (Err r) e stored =
      λ i. record { outcome = record { answer = (e i).answer; place = 0; count = count; book = (e i).book }; list = paste-zero l 0 no_plan.row i }

  -- what is read of the book and the sheet
  abbrev settled : ℕ → Bool
  settled hour = eqb (mark_at b (hour_index hour)) settled_mark

  abbrev held : ℕ → ℕ → ℕ
  held hour unit = kwh_in b (entry_index hour unit)

  abbrev last : ℕ → ℕ → ℕ
  last hour unit = (limit_at s (entry_index hour unit / places) (entry_index hour unit % places)).0

  -- 12 does not hold
  held_most : (hour unit : ℕ) → held hour unit ≤ last hour unit
  held_most hour unit = by (entry_index hour unit) (entry_lt hour unit)
    where
      by : (j : ℕ) → j < entries → kwh_in b j ≤ (limit_at s (j / places) (j % places)).0
      by j l = rw (entry_back j) at ((book_in_range s b fits).commitment (j / places) (j % places) (omega arith) (omega arith))

  module _ (hour : ℕ) (e : bad_hour hour ≡ false) where
    settled_at : settled hour ≡ is_settled b hour
    settled_at = rw (in_hour hour e).0

    module _ (unit : ℕ) (m : is_member s.units unit ≡ true) where
      held_at : held hour unit ≡ held_kwh b hour unit
      held_at = rw (entry_in s.units hour unit e m).0

      last_at : last hour unit ≡ last_kwh s hour unit
      last_at =
          let i = entry_in s.units hour unit e m in
          ap (λ (j : ℕ). (limit_at s (j / places) (j % places)).0) i.0
          ∙ (λ j. (limit_at s (entry_hour (hour - 1) (unit - 1) i.1 j) (entry_place (hour - 1) (unit - 1) i.1 j)).0)

      -- a store at the unit's entry
      stored_at : (c : Book) (kwh : ℕ) → with_kwh c (entry_index hour unit) kwh ≡ with_held c hour unit kwh
      unfolding with_commitment
      stored_at c kwh = rw (entry_in s.units hour unit e m).0

  -- a change's verdict, what it says where it is passed, and the book after it
  abbrev Says : CommitmentChange → Type 0
  Says x = Passed s.units x (settled x.hour) (held x.hour x.from) (held x.hour x.to) (last x.hour x.to)

  abbrev book_after : CommitmentChange → Book
  book_after x = shifted b (entry_index x.hour x.from) (entry_index x.hour x.to) x.out.0 x.into.0

  -- a call with the change's verdict and the book after it
  change_leaves : (x : CommitmentChange) → Is x → (v : Verdict) (after : Book) → verdict_in s b x ≡ v → (Says x → book_after x ≡ after)
      → leaves ≡ done_by l (by_verdict v (changed_to after count) (refused_with b count 0))
  unfolding changed_in
  change_leaves x e v after v-is stored =
      by_change (entry_index x.hour x.from) (entry_index x.hour x.to) x.out.0 x.into.0 after v (rw v-is at e)
      (λ p. stored (changed_passed s.units x (settled x.hour) _ _ _ (v-is ∙ p)))

  -- the change of one unit's commitment
  one_after : (x : CommitmentChange) (kwh : ℕ) → Says x → x.to ≡ x.from → held_kwh b x.hour x.from - x.out.0 + x.into.0 ≡ kwh
      → book_after x ≡ with_held b x.hour x.from kwh
  one_after x kwh p same sum =
      let l : entry_index x.hour x.from < length b.commitment = omega (arith, entry_lt x.hour x.from, long) in
      let n : held x.hour x.from - x.out.0 + x.into.0 ≡ kwh = omega (arith, held_at x.hour p.hour_is x.from p.from_is) in
      rw (same, shifted_one b (entry_index x.hour x.from) x.out.0 x.into.0 l, n)
      (stored_at x.hour p.hour_is x.from p.from_is b kwh)

  module _ (hour : ℕ) where
    module _ (unit kwh : ℕ) where
      take_verdict : verdict_in s b (take_change hour unit kwh)
          ≡ verdict (take_tests s.units hour unit kwh (is_settled b hour) (held_kwh b hour unit) (last_kwh s hour unit))
      take_verdict =
          take_tests_lem s.units hour unit kwh (settled hour) (held hour unit) (last hour unit)
          ∙ gated _ _ _ _ _ _ (λ e m. let k = not-false (is_member s.units unit) m in
          rw (settled_at hour e, held_at hour e unit k, last_at hour e unit k))

      release_verdict : verdict_in s b (release_change hour unit kwh)
          ≡ verdict (release_tests s.units hour unit kwh (is_settled b hour) (held_kwh b hour unit))
      release_verdict =
          release_tests_lem s.units hour unit kwh (settled hour) (held hour unit) (last hour unit) (held_most hour unit)
          ∙ gated _ _ _ _ _ _ (λ e m. rw (settled_at hour e, held_at hour e unit (not-false (is_member s.units unit) m)))

    module _ (from to kwh : ℕ) where
      move_verdict : verdict_in s b (move_change hour from to kwh)
          ≡ verdict (move_tests s.units hour from to kwh (is_settled b hour) (held_kwh b hour from) (held_kwh b hour to) (last_kwh s hour to))
      move_verdict =
          move_tests_lem s.units hour from to kwh (settled hour) (held hour from) (held hour to) (last hour to)
          ∙ gated _ _ _ _ _ _ (λ e m. let f = from_known s.units from to m in let g = to_known s.units from to m in
          rw (settled_at hour e, held_at hour e from f, held_at hour e to g, last_at hour e to g))

      move_after : Says (move_change hour from to kwh)
          → book_after (move_change hour from to kwh)
          ≡ with_held (with_held b hour from (held_kwh b hour from - kwh)) hour to (held_kwh b hour to + kwh)
      move_after p =
          let h = p.hour_is in
          let f = p.from_is in
          let g = p.to_is in
          let i = (entry_in s.units hour from h f).0 in
          let j = (entry_in s.units hour to h g).0 in
          let d : entry_index hour to ≡ entry_index hour from → ⊥ =
          λ e. entries_apart (hour - 1) from to (member s.units from f).least (member s.units to g).least (p.apart refl) (sym j ∙ e ∙ i) in
          rw (shifted_two b (entry_index hour from) (entry_index hour to) kwh kwh d)
          (stored_at hour h to g (with_kwh b (entry_index hour from) (held hour from - kwh)) (held hour to + kwh)
          ∙ rw (stored_at hour h from f b (held hour from - kwh), held_at hour h from f, held_at hour h to g))

  -- the three calls
  take_carried : (hour unit kwh : ℕ) → Is (take_change hour unit kwh) → leaves ≡ carried s b count l (take hour unit kwh)
  unfolding request_rows accepted_in
  take_carried hour unit kwh e =
      change_leaves (take_change hour unit kwh) e _ _ (take_verdict hour unit kwh) (λ p. one_after (take_change hour unit kwh) _ p refl (omega arith))

  release_carried : (hour unit kwh : ℕ) → Is (release_change hour unit kwh) → leaves ≡ carried s b count l (release hour unit kwh)
  unfolding request_rows accepted_in
  release_carried hour unit kwh e =
      change_leaves (release_change hour unit kwh) e _ _ (release_verdict hour unit kwh) (λ p. one_after (release_change hour unit kwh) _ p refl (omega arith))

  move_carried : (hour from to kwh : ℕ) → Is (move_change hour from to kwh) → leaves ≡ carried s b count l (move hour from to kwh)
  unfolding request_rows accepted_in
  move_carried hour from to kwh e =
      change_leaves (move_change hour from to kwh) e _ _ (move_verdict hour from to kwh) (move_after hour from to kwh)

  -- the call by its kind
  commitment_by : (k : CommitmentKind) (c : CommitmentCall) → Is (change_for k c) → leaves ≡ carried s b count l (commitment_of k c)
  commitment_by Take c = take_carried c.hour c.unit c.kwh
  commitment_by Release c = release_carried c.hour c.unit c.kwh
  commitment_by Move c = move_carried c.hour c.unit c.to c.kwh

  pub commitment_carried : (c : CommitmentCall) (x : CommitmentChange) → x ≡ change_of c → Is x → leaves ≡ carried s b count l (commitment_of c.kind c)
  unfolding change_of
  commitment_carried c x e h = commitment_by c.kind c (rw e at h)
