-- A day's count of calls never runs out while one is due: at first it is over the bytes that are left of the text, and each call takes a byte at
-- least, a take its line and an accepted settle its record. So where no call is left, none was due: the text had ended, or something was refused.
-- Assumes nothing.
use mathlib.Core.Path.{◌≡◌, refl, sym, subst, ◌∙◌}
use mathlib.Core.Bool.{Bool, true, false, cond, not}
use mathlib.Core.List.{List, ◌++◌}
use Prim.Native.Nat.{ℕ, zero, suc, ◌+◌, ◌-◌, ◌≤◌, ◌<◌}
use native.Mathlib.Omega.{arith}
use borrow.Author.Tests.{ltb-true}
use lib.Dec.{ltb}
use lib.ListN.{length, drop}
use Rattle.text.specs.Text.{before, has, value_part, key_is}
use Rattle.text.specs.Rows.{word}
use Rattle.values.specs.Values.{value_of}
use Rattle.std.specs.Prelude.{Result, Ok, Err, Some, None}
use Rattle.text.specs.declared.Line.{Line}
use Rattle.text.specs.declared.TextFault.{TextFault}
use Rattle.text.specs.declared.TextFault.TheVariants.{NotDue, TextEnds}
use Rattle.lines.specs.declared.TextRefusal.{TextRefusal}
use Rattle.lines.specs.Lines.{place_after}
use Rattle.sheet.specs.declared.Sheet.{Sheet}
use Rattle.sheet.specs.Ranges.{sheet_holds, monthly_of}
use Rattle.record.specs.declared.Record.{Record}
use Rattle.record_text.specs.Hour.{read_record}
use Rattle.record_text.proofs.Laws.{read_place}
use Rattle.state.specs.declared.Book.{Book}
use Rattle.ledger.specs.Answers.{Answer, Verdict}
use Rattle.ledger.specs.declared.Effect.TheVariants.{Committed, Posted}
use Rattle.ledger.specs.declared.Asked.{Asked}
use Rattle.ledger.specs.declared.Refusal.TheVariants.{Text, SheetRange, BookRange, HourStands}
use Rattle.ledger.specs.Calls.{Row, row, verdict, is_settled, always_rows, book_fits, text_rows, record_rows, request_rows, rows_of, accepted_in, recorded_at, place_after as place_behind, by_verdict, refused_with, decided, plain_request, record_request, Decision}
use Rattle.ledger.specs.Requests.{call_for, part_of}
use Rattle.engine.specs.Journal.{performed}
use Rattle.day_calls.specs.declared.Step.{Step}
use Rattle.account.specs.declared.DayRefusal.{DayRefusal}
use Rattle.day_calls.specs.declared.Next.TheVariants.{Settle}
use Rattle.day_calls.specs.DayCalls.{take_row, take_asked, settle_asked, take_of, next_at, Coming}
use Rattle.account.specs.Day.{Pending, due_with, due_at, answered_by, day_after, Running, performed_in, turned, ran_by, ran_to, most_calls, begun, day_from}
use Rattle.account.proofs.Turned.{NoneDue}

-- nothing is due, or a call that takes at least one of the bytes that the count has left behind it
data Lasts (text : List ℕ) (left : ℕ) : Pending → Type 0 where
  ended : Lasts text left (Ok None)
  refused : (e : DayRefusal) → Lasts text left (Err e)
  take_due : (x : Step) (hour unit kwh : ℕ) → x.asked ≡ take_asked hour unit kwh → 0 < left → length text < x.after + left → Lasts text left (Ok (Some x))
  settle_due : (x : Step) (at : ℕ) → x.asked ≡ settle_asked text at → 0 < left → length text ≤ at + left → Lasts text left (Ok (Some x))

take_lasts : (text : List ℕ) (at left after : ℕ) (r : Result Line TextFault) → 0 < left → length text < after + left
    → Lasts text left (due_with at (take_of r after))
take_lasts text at left after (Ok l) some enough = take_due _ _ _ _ refl some enough
take_lasts text at left after (Err f) some enough = refused _

settle_lasts : (text : List ℕ) (left at : ℕ) (due : Bool) → 0 < left → length text ≤ at + left
    → let coming : Coming = cond due (Ok (Some (Settle (settle_asked text at)))) (Err NotDue) in
    Lasts text left (due_with at coming)
settle_lasts text left at true some enough = settle_due _ at refl some enough
settle_lasts text left at false some enough = refused _

due_lasts : (text : List ℕ) (at left : ℕ) → length text < at + left → Lasts text (left - 1) (due_at text at)
unfolding next_at
due_lasts text at left enough = by (ltb at (length text)) refl (has 10 (drop at text)) (key_is line (word "take"))
  where
    line : List ℕ
    line = before 10 (drop at text)

    read : Result Line TextFault
    read = value_of take_row (value_part line)

    by : (t : Bool) → ltb at (length text) ≡ t → (lf taken : Bool)
        → let coming : Coming =
        cond t (cond lf (cond taken (take_of read (place_after text at)) (cond (key_is line (word "hour")) (Ok (Some (Settle (settle_asked text at)))) (Err NotDue))) (Err TextEnds)) (Ok None) in
        Lasts text (left - 1) (due_with at coming)
    by false e lf taken = ended
    by true e false taken = refused _
    by true e true true =
        let inside : at < length text = ltb-true _ _ e in
        take_lasts text at (left - 1) (place_after text at) read (omega arith) (omega arith)
    by true e true false =
        let inside : at < length text = ltb-true _ _ e in
        settle_lasts text (left - 1) at (key_is line (word "hour")) (omega arith) (omega arith)

-- a take posts nothing
take_answer : (s : Sheet) (b : Book) (hour unit kwh count places : ℕ) (posted : Bool) (n : ℕ)
    → (decided s b (plain_request 1 hour unit 0 kwh) count places posted).answer ≡ Ok (Posted n) → ⊥
unfolding decided accepted_in
take_answer s b hour unit kwh count places posted n = by (verdict (rows_of s b (plain_request 1 hour unit 0 kwh) count places posted))
  where
    by : (v : Verdict) → (by_verdict v (accepted_in s b (plain_request 1 hour unit 0 kwh) count) (refused_with b count 0)).answer ≡ Ok (Posted n) → ⊥
    by (Ok tt) e = let z : ◌≡◌ {A = ℕ} 0 1 = cc in omega arith
    by (Err r) e = let z : ◌≡◌ {A = ℕ} 0 1 = cc in omega arith

-- an accepted settle posts, and gives a place behind its start
module _ (s : Sheet) (b : Book) (text : List ℕ) (at count places : ℕ) (posted : Bool) where
  settle_answer : (decided s b (record_request s 4 text at) count places posted).answer ≡ Ok Committed → ⊥
  unfolding decided accepted_in
  settle_answer = by (verdict (rows_of s b (record_request s 4 text at) count places posted))
    where
      by : (v : Verdict) → (by_verdict v (accepted_in s b (record_request s 4 text at) count) (refused_with b count at)).answer ≡ Ok Committed → ⊥
      by (Ok tt) e = let z : ◌≡◌ {A = ℕ} 0 1 = cc in omega arith
      by (Err r) e = let z : ◌≡◌ {A = ℕ} 0 1 = cc in omega arith

  settle_place : (n : ℕ) → (decided s b (record_request s 4 text at) count places posted).answer ≡ Ok (Posted n)
      → at < (decided s b (record_request s 4 text at) count places posted).place
  unfolding decided accepted_in request_rows verdict
  settle_place n = by (read_record text at s.units (monthly_of s)).answer refl
    where
      first : List Row
      first = always_rows s b count places posted

      r : Record
      r = (read_record text at s.units (monthly_of s)).read

      behind : List Row
      behind = record_rows s r (row HourStands (is_settled b r.hour)) count places

      made : Verdict → Result ℕ TextRefusal → Decision
      made v a = by_verdict v (recorded_at s b r (place_behind at a) count) (refused_with b count at)

      read_well : (place : ℕ) → at < place → (v : Verdict) → (made v (Ok place)).answer ≡ Ok (Posted n) → at < (made v (Ok place)).place
      read_well place later (Ok tt) e = later
      read_well place later (Err x) e = absurd (let z : ◌≡◌ {A = ℕ} 0 1 = cc in omega arith)

      unread : (x : TextRefusal) (t u : Bool)
          → let d = made (cond t (Err SheetRange) (cond u (Err BookRange) (Err (Text x)))) (Err x) in
          d.answer ≡ Ok (Posted n) → at < d.place
      unread x true u e = absurd (let z : ◌≡◌ {A = ℕ} 0 1 = cc in omega arith)
      unread x false true e = absurd (let z : ◌≡◌ {A = ℕ} 0 1 = cc in omega arith)
      unread x false false e = absurd (let z : ◌≡◌ {A = ℕ} 0 1 = cc in omega arith)

      by : (a : Result ℕ TextRefusal) → (read_record text at s.units (monthly_of s)).answer ≡ a
          → let d = made (verdict (first ++ (text_rows a ++ behind))) a in
          d.answer ≡ Ok (Posted n) → at < d.place
      by (Ok place) e = read_well place (read_place text at s.units (monthly_of s) place e).0 (verdict (first ++ behind))
      by (Err x) e = unread x (not (sheet_holds s)) (not (book_fits s b count places posted))

-- after a call that was due nothing is due, or another call for which the count has bytes left
answered_lasts : (text : List ℕ) (left : ℕ) (x : Step) (place : ℕ) (a : Answer) → Lasts text left (Ok (Some x))
    → ((hour unit kwh : ℕ) → x.asked ≡ take_asked hour unit kwh → (n : ℕ) → a ≡ Ok (Posted n) → ⊥)
    → ((at : ℕ) → x.asked ≡ settle_asked text at → (a ≡ Ok Committed → ⊥) × ((n : ℕ) → a ≡ Ok (Posted n) → at < place))
    → Lasts text (left - 1) (answered_by text x.after place a)
answered_lasts text left x place (Err r) lasts take settle = refused _
answered_lasts text left x place (Ok Committed) (take_due _ h u k e l enough) take settle = due_lasts text x.after left enough
answered_lasts text left x place (Ok Committed) (settle_due _ at e l enough) take settle = absurd ((settle at e).0 refl)
answered_lasts text left x place (Ok (Posted n)) (take_due _ h u k e l enough) take settle = absurd (take h u k e n refl)
answered_lasts text left x place (Ok (Posted n)) (settle_due _ at e l enough) take settle =
    let later = (settle at e).1 n refl in
    due_lasts text place left (omega arith)

module _ (sheet : Sheet) (text : List ℕ) where
  take_told : (r : Running) (x : Step) (hour unit kwh : ℕ) → x.asked ≡ take_asked hour unit kwh → (n : ℕ) → (performed_in sheet text r x).outcome.answer ≡ Ok (Posted n) → ⊥
  unfolding performed call_for
  take_told r x hour unit kwh e n h =
      take_answer sheet r.day.book hour unit kwh r.day.count _ _ n
      (subst (λ (a : Asked). (performed r.list r.day.count sheet r.day.book (call_for text a)).outcome.answer ≡ Ok (Posted n)) e h)

  settle_told : (r : Running) (x : Step) (at : ℕ) → x.asked ≡ settle_asked text at
      → let o = (performed_in sheet text r x).outcome in
      (o.answer ≡ Ok Committed → ⊥) × ((n : ℕ) → o.answer ≡ Ok (Posted n) → at < o.place)
  unfolding performed call_for
  settle_told r x at e =
      subst (λ (a : Asked). let o = (performed r.list r.day.count sheet r.day.book (call_for text a)).outcome in
      (o.answer ≡ Ok Committed → ⊥) × ((n : ℕ) → o.answer ≡ Ok (Posted n) → at < o.place)) (sym e) (
        settle_answer sheet r.day.book (part_of text 0 (length text)) at r.day.count _ _,
        settle_place sheet r.day.book (part_of text 0 (length text)) at r.day.count _ _,
      )

  turn_lasts : (r : Running) (x : Step) (left : ℕ) → Lasts text left (Ok (Some x)) → Lasts text (left - 1) (turned sheet text r x).day.due
  unfolding turned day_after
  turn_lasts r x left lasts =
      let o = (performed_in sheet text r x).outcome in
      answered_lasts text left x o.place o.answer lasts (take_told r x) (settle_told r x)

  -- a count that lasts ends in a day with no call due
  no_more : (p : Pending) → Lasts text 0 p → NoneDue p
  no_more (Ok None) l x e = absurd (let z : ◌≡◌ {A = ℕ} 0 1 = cc in omega arith)
  no_more (Err r) l x e = absurd (let z : ◌≡◌ {A = ℕ} 0 1 = cc in omega arith)
  no_more (Ok (Some y)) (take_due _ h u k e l enough) x f = absurd (omega arith)
  no_more (Ok (Some y)) (settle_due _ at e l enough) x f = absurd (omega arith)

  by_due : (left : ℕ) (r : Running) (p : Pending) → r.day.due ≡ p → Lasts text left p
      → ((x : Step) → Lasts text (left - 1) (turned sheet text r x).day.due → NoneDue (ran_to sheet text left (turned sheet text r x)).day.due)
      → NoneDue (ran_by sheet text (ran_to sheet text left) r p).day.due
  by_due left r (Ok (Some x)) e l next = next x (turn_lasts r x left l)
  by_due left r (Ok None) e l next = λ x f. let same = sym e ∙ f in absurd (let z : ◌≡◌ {A = ℕ} 0 1 = cc in omega arith)
  by_due left r (Err y) e l next = λ x f. let same = sym e ∙ f in absurd (let z : ◌≡◌ {A = ℕ} 0 1 = cc in omega arith)

  ran_lasts : (k : ℕ) (r : Running) → Lasts text (k - 1) r.day.due → NoneDue (ran_to sheet text k r).day.due
  unfolding ran_to
  ran_lasts zero r lasts = no_more r.day.due lasts
  ran_lasts (suc k) r lasts =
      let same : suc k - 1 ≡ k = omega arith in
      by_due k r r.day.due refl (subst (λ (j : ℕ). Lasts text j r.day.due) same lasts) (λ x l. ran_lasts k (turned sheet text r x) l)

  -- "until the day has ended"
  pub none_left : (at : ℕ) → NoneDue (day_from sheet text at).due
  unfolding begun
  none_left at = ran_lasts (most_calls text) (begun text at) (due_lasts text at (suc (length text)) (omega arith))
