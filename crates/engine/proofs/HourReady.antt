-- What a settle, restate or void rests on. The book's ranges bound the amounts that stand; the sheet's and the record's bound those of a record that was
-- read; and an accepted one passed 42.
-- Assumes nothing.
use Rattle.lines.specs.declared.TextRefusal.{TextRefusal}
use Rattle.std.specs.Prelude.{Result, Ok, Err}
use mathlib.Core.Path.{◌≡◌, refl, sym, ap, ◌∙◌, subst}
use mathlib.Core.Bool.{Bool, true, false}
use mathlib.Core.List.{List}
use Prim.Native.Nat.{ℕ, ◌+◌, ◌-◌, ◌≤◌, ◌<◌, min}
use native.Mathlib.Omega.{arith}
use borrow.Author.Tests.{ltb-false}
use lib.ListN.{get_or}
use Rattle.energy.specs.declared.HubKwh.{HubKwh}
use Rattle.units.specs.Units.{member_at}
use Rattle.units.proofs.Laws.{place_lt}
use Rattle.offer.specs.Offer.{last_quantity}
use Rattle.sheet.specs.declared.Sheet.{Sheet}
use Rattle.sheet.specs.Ranges.{unit_at, offer_at}
use Rattle.sheet.proofs.InRange.{in_range_lem}
use Rattle.record.specs.declared.Record.{Record}
use Rattle.record.specs.Empty.{no_record}
use Rattle.record.specs.InRange.{InRange}
use Rattle.record_text.specs.declared.RecordRead.{RecordRead}
use Rattle.record_text.specs.Hour.{RecordTold}
use Rattle.terms.specs.declared.HourSheet.{HourSheet}
use Rattle.terms.specs.Terms.{hour_sheet}
use Rattle.terms.proofs.Taken.{hour_units}
use Rattle.settlement.specs.declared.HourResult.{HourResult}
use Rattle.settlement.specs.Ranges.{HourReady, HourDue, hour_by, proportions_by}
use Rattle.settlement.proofs.Laws.{ready, amount_most}
use Rattle.settlement.proofs.Taken.{hour_by_lem}
use Rattle.state.specs.declared.Book.{Book}
use Rattle.state.specs.Book.{no_kwh, no_result, hour_commitments}
use Rattle.state.specs.Ranges.{AmountsWithin}
use Rattle.state.proofs.InRange.{limit_in, book_in_range}
use Rattle.state.proofs.Kept.{hour_within, none_within}
use Rattle.state.proofs.Writing.{hour_commitment}
use Rattle.postings.specs.Plan.{entry_size}
use Rattle.postings.proofs.Counted.{count_list, count_most}
use Rattle.ledger.specs.declared.Refusal.{Refusal}
use Rattle.ledger.specs.declared.Refusal.TheVariants.{Text}
use Rattle.ledger.specs.Answers.{Verdict}
use Rattle.ledger.specs.Ledger.{given}
use Rattle.ledger.specs.Calls.{verdict, short_of, is_settled, record_tests, void_tests}
use Rattle.ledger.proofs.Accepted.{given_range}
use Rattle.ledger.proofs.Passed.{hour_in}
use Rattle.ledger.proofs.Places.{passed}
use Rattle.decisions.specs.declared.HourChange.{HourChange}
use Rattle.decisions.specs.Hours.{hour_changed, change_by, void_decided, standing_row, record_decided}
use Rattle.engine.specs.Carried.{Ready, ChangeReady, StoreReady, recorded}

-- an accepted change is the one that was made, where no row holds
change_made : (v : Verdict) (d x : HourChange) → change_by v d ≡ Ok x → (v ≡ Ok tt) × (d ≡ x)
change_made (Ok tt) d x e = (refl, cc)
change_made (Err r) d x e = absurd (let z : ◌≡◌ {A = ℕ} 0 1 = cc in omega arith)

module _ (s : Sheet) (b : Book) (count room : ℕ) (r : Ready s b count room) where
  pub mask_most : s.units < 256
  mask_most = omega (arith, (in_range_lem s r.holds).units_most)

  -- 42 does not hold
  free_by : short_of s.units count room ≡ false → count + entry_size s.units ≤ room
  free_by e = omega (arith, ltb-false (min room 100000 - count) (entry_size s.units) e, count_list count room r.counted)

  change_ready : (decided : Result HourChange Refusal) → ((d : HourChange) → decided ≡ Ok d → ChangeReady s.units count room d) → StoreReady s.units b count room decided
  change_ready decided change =
      record {
        mask = mask_most;
        few = count_most count room r.counted;
        old = λ h day. hour_within s b (book_in_range s b r.fits) h s.units day;
        change = change;
      }

  pub void_ready : (hour : ℕ) (settled : Bool) (decided : Result HourChange Refusal) → decided ≡ void_decided s.units hour settled count room → StoreReady s.units b count room decided
  unfolding void_decided
  void_ready hour settled decided e =
      change_ready decided (λ d is.
      let made = change_made (verdict (void_tests s.units hour settled count room)) (hour_changed s.units hour false no_result 0) d (sym e ∙ is) in
      let p10 = passed _ _ made.0 in
      let p41 = passed _ _ p10.1 in
      let day = hour_in hour p10.0 in
      subst (ChangeReady s.units count room) made.1
      (record { hour_least = day.0; hour_most = day.1; within = none_within s.units; posted = refl; free = free_by (passed _ _ p41.1).0 }))

  -- of a record that was read, in its ranges
  module _ (read : Record) (i : InRange s.units read) where
    abbrev held : List HubKwh
    held = hour_commitments b (read.hour - 1)

    hour_ready : HourReady s read held
    hour_ready = ready s read held r.holds i committed
      where
        committed : (j : ℕ) → member_at s.units j ≡ true → (get_or held j no_kwh).0 ≤ (last_quantity (offer_at (unit_at s.unit j) (read.hour - 1))).0
        committed j m =
            let l = place_lt s.units j m in
            rw (hour_commitment b (read.hour - 1) j l, ← limit_in s (read.hour - 1) j m)
            ((book_in_range s b r.fits).commitment (read.hour - 1) j (omega (arith, i.hour_least, i.hour_most)) l)

    hour_due : HourDue (hour_sheet s read.hour) read held
    hour_due = record { sheet = s; is = refl; ready = hour_ready }

    amounts_within : AmountsWithin s.units (hour_by (hour_sheet s read.hour) read held).amounts
    amounts_within =
        subst (λ (x : HourResult). AmountsWithin s.units x.amounts) (sym (hour_by_lem s read held))
        (λ k m j l. amount_most s read held hour_ready k (place_lt s.units k m) j)

    accepted_ready : (again settled : Bool) (place : ℕ) (d : HourChange)
        → let day = hour_sheet s read.hour in
        change_by (verdict (record_tests day.units (proportions_by day read) read (standing_row again settled) count room))
        (hour_changed day.units read.hour true (hour_by day read held) place) ≡ Ok d
        → ChangeReady s.units count room d
    accepted_ready again settled place d e =
        let made = change_made _ _ d e in
        let p31 = passed _ _ made.0 in
        let p40 = passed _ _ p31.1 in
        let p32 = passed _ _ p40.1 in
        let p33 = passed _ _ p32.1 in
        let free : short_of s.units count room ≡ false = rw (hour_units s read.hour) at (passed _ _ p33.1).0 in
        subst (ChangeReady s.units count room) made.1
        (record { hour_least = i.hour_least; hour_most = i.hour_most; within = amounts_within; posted = ap entry_size (hour_units s read.hour); free = free_by free })

  module _ (text : List ℕ) (start : ℕ) where
    -- by what was read
    read_ready : (again settled : Bool) (a : Result ℕ TextRefusal) (read : Record) → ((place : ℕ) → a ≡ Ok place → InRange s.units read)
        → (d : HourChange)
        → record_decided (hour_sheet s read.hour) (hour_commitments b (read.hour - 1)) again settled (record { answer = a; read = read }) count room ≡ Ok d
        → ChangeReady s.units count room d
    unfolding record_decided verdict
    read_ready again settled (Ok place) read i d e = accepted_ready read (i place refl) again settled place d e
    read_ready again settled (Err x) read i d e = absurd (let z : ◌≡◌ {A = ℕ} 0 1 = cc in omega arith)

    pub record_ready : (again : Bool) (decided : Result HourChange Refusal) → decided ≡ recorded s b again text start count room → StoreReady s.units b count room decided
    record_ready again decided e =
        let g = given s text start in
        change_ready decided (λ d is. read_ready again (is_settled b g.read.hour) g.answer g.read (given_range s r.holds text start) d (sym e ∙ is))

    -- a text that is refused
    pub refused_text : (again : Bool) (x : TextRefusal) → ◌≡◌ {A = RecordTold} (record { answer = Err x; read = no_record }) (given s text start)
        → Err (Text x) ≡ recorded s b again text start count room
    unfolding record_decided verdict
    refused_text again x e =
        subst (λ (g : RecordTold). Err (Text x)
        ≡ record_decided (hour_sheet s g.read.hour) (hour_commitments b (g.read.hour - 1)) again (is_settled b g.read.hour) g count room) e refl

    -- the record that was read is due
    pub record_due : (x : RecordRead) (held' : List HubKwh) (day : HourSheet)
        → ◌≡◌ {A = RecordTold} (record { answer = Ok x.place; read = x.read }) (given s text start)
        → held' ≡ hour_commitments b (x.read.hour - 1) → day ≡ hour_sheet s x.read.hour → HourDue day x.read held'
    record_due x held' day e eheld eday =
        let i : InRange s.units x.read =
        subst (λ (z : RecordTold). InRange s.units z.read) (sym e) (given_range s r.holds text start x.place (sym (ap (λ (z : RecordTold). z.answer) e))) in
        rw (eday, eheld) (hour_due x.read i)

    -- its hour is one of the day
    pub record_hour : (x : RecordRead) → ◌≡◌ {A = RecordTold} (record { answer = Ok x.place; read = x.read }) (given s text start) → (1 ≤ x.read.hour) × (x.read.hour ≤ 24)
    record_hour x e =
        let i : InRange s.units x.read =
        subst (λ (z : RecordTold). InRange s.units z.read) (sym e) (given_range s r.holds text start x.place (sym (ap (λ (z : RecordTold). z.answer) e))) in
        (i.hour_least, i.hour_most)

    -- what is decided of it by the code is what is recorded
    pub recorded_by : (again settled : Bool) (x : RecordRead) (held' : List HubKwh) (day : HourSheet)
        → ◌≡◌ {A = RecordTold} (record { answer = Ok x.place; read = x.read }) (given s text start)
        → held' ≡ hour_commitments b (x.read.hour - 1) → settled ≡ is_settled b x.read.hour → day ≡ hour_sheet s x.read.hour
        → record_decided day held' again settled (record { answer = Ok x.place; read = x.read }) count room ≡ recorded s b again text start count room
    recorded_by again settled x held' day e eheld es eday =
        (λ i. record_decided (eday i) (eheld i) again (es i) (record { answer = Ok x.place; read = x.read }) count room)
        ∙ ap (λ (g : RecordTold). record_decided (hour_sheet s g.read.hour) (hour_commitments b (g.read.hour - 1)) again (is_settled b g.read.hour) g count room) e
