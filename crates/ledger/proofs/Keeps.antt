-- No call leads into 12, whatever the book: a take and a move's target pass 22, and a release and a move's source only lessen; settle, restate
-- and void store the settlement's energies and amounts, or zeros, and pass 42, and each posting is the difference of two amounts within ±10^11.
-- A refused call changes nothing. No call changes the number of places either.
-- Assumes nothing.
use Rattle.std.specs.Prelude.{Result}
use Rattle.lines.specs.declared.TextRefusal.{TextRefusal}
use Rattle.std.specs.Prelude.{Ok, Err}
use mathlib.Core.Path.{◌≡◌, refl, ap, sym, ◌∙◌, subst}
use mathlib.Core.Bool.{Bool, true, false, ◌&&◌}
use mathlib.Core.List.{List, ◌++◌}
use Prim.Native.Nat.{ℕ, zero, suc, ◌+◌, ◌-◌, ◌*◌, ◌≤◌, ◌<◌, min}
use native.Mathlib.Omega.{arith}
use borrow.Author.Tests.{ltb-false, not-false}
use lib.ListN.{length, get_or, take as first_of}
use lib.Seq.{paste, paste-zero, length-paste}
use Rattle.finite.proofs.Tests.{and_left, and_right, and_both}
use Rattle.units.specs.Units.{is_member, member_at, unit_count}
use Rattle.units.proofs.Laws.{member, place_lt}
use Rattle.offer.specs.Offer.{last_quantity}
use Rattle.sheet.specs.declared.Sheet.{Sheet}
use Rattle.sheet.specs.Ranges.{sheet_holds, unit_at, offer_at}
use Rattle.sheet.proofs.InRange.{in_range_lem}
use Rattle.record.specs.declared.Record.{Record}
use Rattle.record.specs.InRange.{InRange}
use Rattle.energy.specs.declared.HubKwh.{HubKwh}
use Rattle.settlement.specs.declared.Amounts.{Amounts}
use Rattle.settlement.specs.declared.HourResult.{HourResult}
use Rattle.settlement.specs.Hour.{hour_result}
use Rattle.settlement.specs.Ranges.{HourReady}
use Rattle.settlement.proofs.Laws.{ready, energy_most, amount_most}
use Rattle.state.specs.declared.Book.{Book}
use Rattle.state.specs.Sizes.{places, items}
use Rattle.state.specs.Book.{Sized, no_kwh, past_amounts, open_mark, settled_mark, hour_commitments, hour_amounts, no_result}
use Rattle.state.specs.Ranges.{book_holds, AmountsWithin, EnergiesWithin}
use Rattle.state.proofs.InRange.{BookInRange, book_in_range, book_holds_back, limit_in}
use Rattle.state.proofs.Kept.{commitment_in_range, hour_in_range, hour_within, none_within, none_energies}
use Rattle.state.proofs.Empty.{none_amounts}
use Rattle.state.proofs.Writing.{hour_commitment, commitment_sized, hour_sized}
use Rattle.postings.specs.declared.Posting.{Posting}
use Rattle.postings.specs.Journal.{count_holds, posted_hold}
use Rattle.postings.specs.Plan.{postings_of, plan_of, padded}
use Rattle.postings.proofs.Counted.{count_list, count_most, count_back}
use Rattle.postings.proofs.Posted.{postings_length, postings_hold}
use Rattle.postings.proofs.Totals.{posted_append}
use Rattle.ledger.specs.Answers.{Verdict}
use Rattle.ledger.specs.Ledger.{Call, take, release, move, settle, restate, void}
use Rattle.ledger.specs.Calls.{State, Row, verdict, held_kwh, last_kwh, short_of, text_rows, record_rows, request_rows, rows_of, by_verdict, refused_with, changed_to, with_held, posted_with, recorded_at, recorded_in, accepted_in, decided, decided_on, fits_in, carried_out, request_of, record_request}
use Rattle.ledger.proofs.Accepted.{given_range}
use Rattle.ledger.proofs.Follow.{after, unposted}
use Rattle.ledger.proofs.Lists.{pasted_length, pasted_entries}
use Rattle.ledger.proofs.Passed.{hour_in, from_known, to_known}
use Rattle.ledger.proofs.Places.{passed, rest, record_short, void_short, decided_fits, decided_rows}
use Rattle.ledger.proofs.Settled.{items_length}

-- a book of the right size that 12 does not refuse, with its count and journal
pub record Kept (s : Sheet) (st : State) : Type 0 where
  pub sized : Sized st.book
  pub fits : fits_in s st ≡ true

-- a text that is not refused was read
text_passed : (r : Result ℕ TextRefusal) (rs : List Row) → verdict (text_rows r ++ rs) ≡ Ok tt → (place : ℕ) × (r ≡ Ok place)
text_passed (Ok place) rs e = (place, refl)
text_passed (Err x) rs e = absurd (let p = (passed _ _ e).0 in let z : ◌≡◌ {A = ℕ} 0 1 = cc in omega arith)

module _ (s : Sheet) (st : State) where
  -- 12 by its three parts
  abbrev entries : List Posting
  entries = first_of st.count st.journal

  abbrev holds : Bool
  holds = count_holds st.count (length st.journal)

  module _ (k : Kept s st) where
    book_in_lem : BookInRange s st.book
    book_in_lem = book_in_range s st.book (and_left (book_holds s st.book) (holds && posted_hold entries) k.fits)

    rest_in : (holds && posted_hold entries) ≡ true
    rest_in = and_right (book_holds s st.book) (holds && posted_hold entries) k.fits

    count_in_lem : holds ≡ true
    count_in_lem = and_left holds (posted_hold entries) rest_in

    posted_in_lem : posted_hold entries ≡ true
    posted_in_lem = and_right holds (posted_hold entries) rest_in

    -- another book
    changed_keeps : (b : Book) → Sized b → BookInRange s b → Kept s (after st (changed_to b st.count))
    changed_keeps b size r =
        subst (Kept s) (sym (unposted st b))
        (record { sized = size; fits = and_both (book_holds s b) (holds && posted_hold entries) (book_holds_back s b r) rest_in })

    -- another commitment of a unit of the plant
    module _ (b : Book) (size : Sized b) (r : BookInRange s b) (hour unit kwh : ℕ) (h : (1 ≤ hour) × (hour ≤ 24)) (m : is_member s.units unit ≡ true)
        (most : kwh ≤ last_kwh s hour unit) where
      held_in_lem : BookInRange s (with_held b hour unit kwh)
      held_in_lem =
          let u = member s.units unit m in
          commitment_in_range s b r (hour - 1) (unit - 1) (record { 0 = kwh }) size (omega (arith, h)) (omega (arith, u.least, u.most)) most

      held_sized : Sized (with_held b hour unit kwh)
      held_sized = commitment_sized b (hour - 1) (unit - 1) (record { 0 = kwh }) size

    -- what a unit of the plant holds
    held_most : (hour unit : ℕ) → (1 ≤ hour) × (hour ≤ 24) → is_member s.units unit ≡ true → held_kwh st.book hour unit ≤ last_kwh s hour unit
    held_most hour unit h m =
        let u = member s.units unit m in book_in_lem.commitment (hour - 1) (unit - 1) (omega (arith, h)) (omega (arith, u.least, u.most))

    -- an hour's energies and amounts, with the postings of what they change
    module _ (t : sheet_holds s ≡ true) (hour mark : ℕ) (result : HourResult) (h : (1 ≤ hour) × (hour ≤ 24)) (known : mark ≤ settled_mark)
        (energies : EnergiesWithin s.units result.energy) (amounts : AmountsWithin s.units result.amounts)
        (five : (j : ℕ) → j < places → length (get_or result.amounts j past_amounts).item ≡ items)
        (free : short_of s.units st.count (length st.journal) ≡ false) where
      abbrev n : ℕ
      n = 5 * unit_count s.units

      abbrev rows : List Posting
      rows = postings_of hour s.units (hour_amounts st.book (hour - 1)) result.amounts

      rows_count : length rows ≡ n
      rows_count =
          postings_length hour s.units (hour_amounts st.book (hour - 1)) result.amounts (omega (arith, (in_range_lem s t).units_most))

      rows_hold : posted_hold rows ≡ true
      rows_hold =
          postings_hold hour s.units (hour_amounts st.book (hour - 1)) result.amounts
          (hour_within s st.book book_in_lem (hour - 1) s.units (omega (arith, h))) amounts

      -- 42: the count with the new postings
      room : (st.count + n ≤ length st.journal) × (st.count + n ≤ 100000)
      room =
          let enough = ltb-false (min (length st.journal) 100000 - st.count) n free in
          let listed = count_list st.count (length st.journal) count_in_lem in
          let most = count_most st.count (length st.journal) count_in_lem in
          (omega (arith, enough, listed, most), omega (arith, enough, listed, most))

      -- the journal with the rows after the count
      module _ (j : List Posting) (is : j ≡ paste st.journal st.count (padded rows) (length rows)) where
        fits_room : st.count + length rows ≤ length st.journal
        fits_room = omega (arith, rows_count, room.0)

        long : length j ≡ length st.journal
        long = ap length is ∙ pasted_length st.journal rows st.count fits_room

        counted : count_holds (st.count + n) (length j) ≡ true
        counted = count_back (st.count + n) (length j) (omega (arith, long, room.0)) room.1

        front : first_of (st.count + n) j ≡ entries ++ rows
        front =
            let e = sym rows_count in
            (λ i. first_of (st.count + e i) (is i)) ∙ pasted_entries st.journal rows st.count fits_room

        posted : posted_hold (first_of (st.count + n) j) ≡ true
        posted = ap posted_hold front ∙ (posted_append entries rows ∙ and_both (posted_hold entries) (posted_hold rows) posted_in_lem rows_hold)

        journal_keeps : (b : Book) → Sized b → BookInRange s b → Kept s (record { book = b; count = st.count + n; journal = j })
        journal_keeps b size r =
            record {
              sized = size;
              fits =
                  and_both (book_holds s b) (count_holds (st.count + n) (length j) && posted_hold (first_of (st.count + n) j))
                  (book_holds_back s b r)
                  (and_both (count_holds (st.count + n) (length j)) (posted_hold (first_of (st.count + n) j)) counted posted);
            }

      -- the text place is no part of what is left
      posted_keeps : Kept s (after st (posted_with s st.book hour mark result 0 st.count))
      unfolding plan_of
      posted_keeps =
          journal_keeps _ (ap (paste st.journal st.count (padded rows)) (sym rows_count)) _
          (hour_sized st.book (hour - 1) mark s.units result k.sized five)
          (hour_in_range s st.book book_in_lem (hour - 1) mark s.units result k.sized (omega (arith, h)) known energies amounts)

    module _ (t : sheet_holds s ≡ true) where
      -- a record that was read: the settlement's energies and amounts are in their ranges
      module _ (r : Record) (i : InRange s.units r) where
        abbrev held : List HubKwh
        held = hour_commitments st.book (r.hour - 1)

        hour_ready : HourReady s r held
        hour_ready = ready s r held t i committed
          where
            committed : (j : ℕ) → member_at s.units j ≡ true → (get_or held j no_kwh).0 ≤ (last_quantity (offer_at (unit_at s.unit j) (r.hour - 1))).0
            committed j m =
                let l = place_lt s.units j m in
                rw (hour_commitment st.book (r.hour - 1) j l, ← limit_in s (r.hour - 1) j m)
                (book_in_lem.commitment (r.hour - 1) j (omega (arith, i.hour_least, i.hour_most)) l)

        record_keeps : short_of s.units st.count (length st.journal) ≡ false
            → Kept s (after st (recorded_at s st.book r 0 st.count))
        record_keeps free =
            posted_keeps t r.hour settled_mark (hour_result s r held) (i.hour_least, i.hour_most) (omega arith)
            (λ j m. energy_most s r held hour_ready j (place_lt s.units j m))
            (λ j m e b. amount_most s r held hour_ready j (place_lt s.units j m) e)
            (items_length s r held) free

      -- what the rows of an accepted call tell
      given_keeps : (kind : ℕ) (text : List ℕ) (start : ℕ) (standing : Row)
          → let q = record_request s kind text start in
          verdict (text_rows q.answer ++ record_rows s q.read standing st.count (length st.journal)) ≡ Ok tt
          → Kept s (after st (recorded_in s st.book q st.count))
      given_keeps kind text start standing e =
          let q = record_request s kind text start in
          let p = text_passed q.answer _ e in
          record_keeps q.read (given_range s t text start p.0 p.1)
          (record_short s st.book q st.count (length st.journal) standing (rest (text_rows q.answer) _ e))

      accepted_keeps : (c : Call) → verdict (request_rows s st.book (request_of s c) st.count (length st.journal)) ≡ Ok tt
          → Kept s (after st (accepted_in s st.book (request_of s c) st.count))
      unfolding request_rows accepted_in
      accepted_keeps (take hour unit kwh) e =
          let a = passed _ _ e in
          let b = passed _ _ a.1 in
          let c = passed _ _ b.1 in
          let d = passed _ _ c.1 in
          let f = passed _ _ d.1 in
          let h = hour_in hour a.0 in
          let m = not-false _ b.0 in
          let most = ltb-false _ _ f.0 in
          changed_keeps _ (held_sized st.book k.sized book_in_lem hour unit _ h m most) (held_in_lem st.book k.sized book_in_lem hour unit _ h m most)
      accepted_keeps (release hour unit kwh) e =
          let a = passed _ _ e in
          let b = passed _ _ a.1 in
          let h = hour_in hour a.0 in
          let m = not-false _ b.0 in
          let most : held_kwh st.book hour unit - kwh ≤ last_kwh s hour unit = omega (arith, held_most hour unit h m) in
          changed_keeps _ (held_sized st.book k.sized book_in_lem hour unit _ h m most) (held_in_lem st.book k.sized book_in_lem hour unit _ h m most)
      accepted_keeps (move hour from to kwh) e =
          let a = passed _ _ e in
          let b = passed _ _ a.1 in
          let c = passed _ _ b.1 in
          let d = passed _ _ c.1 in
          let f = passed _ _ d.1 in
          let g = passed _ _ f.1 in
          let j = passed _ _ g.1 in
          let h = hour_in hour a.0 in
          let m = from_known s.units from to b.0 in
          let o = to_known s.units from to b.0 in
          let less : held_kwh st.book hour from - kwh ≤ last_kwh s hour from = omega (arith, held_most hour from h m) in
          let most = ltb-false _ _ j.0 in
          let size = held_sized st.book k.sized book_in_lem hour from _ h m less in
          let range = held_in_lem st.book k.sized book_in_lem hour from _ h m less in
          changed_keeps _ (held_sized _ size range hour to _ h o most) (held_in_lem _ size range hour to _ h o most)
      accepted_keeps (settle text start) e = given_keeps 4 text start _ e
      accepted_keeps (restate text start) e = given_keeps 5 text start _ e
      accepted_keeps (void hour) e =
          let a = passed _ _ e in
          posted_keeps t hour open_mark no_result (hour_in hour a.0) (omega arith) (none_energies s.units) (none_within s.units)
          (λ j l. ap (λ (x : Amounts). length x.item) (none_amounts j l))
          (void_short s st.book (request_of s (void hour)) st.count (length st.journal) e)

pub carried_keeps : (s : Sheet) (st : State) (c : Call) → sheet_holds s ≡ true → Kept s st → Kept s (carried_out s st (request_of s c)).state
unfolding carried_out decided
carried_keeps s st c t k = by (verdict rows) refl
  where
    rows : List Row
    rows = rows_of s st.book (request_of s c) st.count (length st.journal) (posted_hold (first_of st.count st.journal))

    by : (v : Verdict) → verdict rows ≡ v
        → Kept s (after st (by_verdict v (accepted_in s st.book (request_of s c) st.count) (refused_with st.book st.count (request_of s c).start)))
    by (Ok tt) e = accepted_keeps s st k t c (passed _ _ (passed _ _ e).1).1
    by (Err r) e = subst (Kept s) (sym (unposted st st.book)) k

-- the number of places
pasted_long : (journal rows : List Posting) (at n : ℕ) → n ≤ length journal - at → n ≤ length rows → length (paste journal at rows n) ≡ length journal
pasted_long journal rows at zero a b = ap length (sym (paste-zero journal at rows))
pasted_long journal rows at (suc n) a b = length-paste journal at rows (suc n) (omega arith) b

pub carried_long : (s : Sheet) (st : State) (c : Call) → length (carried_out s st (request_of s c)).state.journal ≡ length st.journal
unfolding carried_out
carried_long s st c =
    let posted = posted_hold (first_of st.count st.journal) in
    let d = decided_on s st (request_of s c) in
    pasted_long st.journal d.plan.row d.at d.n
    (decided_fits s st.book (request_of s c) st.count (length st.journal) posted).1
    (decided_rows s st.book (request_of s c) st.count (length st.journal) posted)
