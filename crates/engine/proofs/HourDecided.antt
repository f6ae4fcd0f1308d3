-- A settle, restate or void decided by what the sheet and the book have of its hour, and carried out on the book, is what its rows say on the whole sheet
-- and book: the rows look at nothing else, and a refusal changes nothing, whatever the hour.
-- Assumes nothing.
use Rattle.lines.specs.declared.TextRefusal.{TextRefusal}
use Rattle.std.specs.Prelude.{Result, Ok, Err}
use mathlib.Core.Path.{◌≡◌, refl, ◌∙◌, ap, ap₂}
use mathlib.Core.Bool.{Bool, true, false}
use mathlib.Core.List.{List, ◌++◌}
use Prim.Native.Nat.{ℕ, ◌-◌}
use lib.Dec.{eqb}
use Rattle.sheet.specs.declared.Sheet.{Sheet}
use Rattle.record.specs.declared.Record.{Record}
use Rattle.terms.specs.Terms.{hour_sheet}
use Rattle.terms.proofs.Taken.{hour_units}
use Rattle.settlement.specs.declared.HourResult.{HourResult}
use Rattle.settlement.specs.Ranges.{hour_by, proportions_by}
use Rattle.settlement.proofs.Taken.{hour_by_lem, proportions_by_lem}
use Rattle.state.specs.declared.Book.{Book}
use Rattle.state.specs.Book.{mark_at, hour_commitments, settled_mark}
use Rattle.ledger.specs.declared.Refusal.{Refusal}
use Rattle.ledger.specs.Answers.{Verdict}
use Rattle.ledger.specs.Ledger.{given, void}
use Rattle.ledger.specs.Calls.{Row, verdict, bad_hour, is_settled, text_rows, record_tests, record_rows, void_rows, request_rows, place_after, by_verdict, refused_with, posted_with, recorded_at, voided_at, accepted_in, request_of, request_decided, Decision}
use Rattle.decisions.specs.declared.HourChange.{HourChange}
use Rattle.decisions.specs.Calls.{record_of}
use Rattle.decisions.specs.Changes.{hour_index}
use Rattle.decisions.specs.Hours.{hour_changed, change_by, void_decided, standing_row, record_decided}
use Rattle.decisions.proofs.Changes.{in_hour}
use Rattle.engine.specs.Carried.{accepted_on, decision_of, recorded}

module _ (s : Sheet) (b : Book) (count room : ℕ) where
  refused_on_lem : (start : ℕ) (r : Refusal) → decision_of s.units b count start (Err r) ≡ refused_with b count start r
  refused_on_lem start r = refl

  by_on : (v : Verdict) (start : ℕ) (d : HourChange) (x : Decision) → accepted_on s.units b count d ≡ x
      → decision_of s.units b count start (change_by v d) ≡ by_verdict v x (refused_with b count start)
  by_on (Ok tt) start d x e = e
  by_on (Err r) start d x e = refl

  -- a record that was read, by the row of 40 or 41
  read_on : (r : Record) (start place : ℕ) (standing : Row)
      → let day = hour_sheet s r.hour in
      decision_of s.units b count start
      (change_by (verdict (record_tests day.units (proportions_by day r) r standing count room))
      (hour_changed day.units r.hour true (hour_by day r (hour_commitments b (r.hour - 1))) place))
      ≡ by_verdict (verdict (record_rows s r standing count room)) (recorded_at s b r place count) (refused_with b count start)
  read_on r start place standing =
      let day = hour_sheet s r.hour in
      let held = hour_commitments b (r.hour - 1) in
      ap₂ (λ (units : ℕ) (t : Bool). decision_of s.units b count start
      (change_by (verdict (record_tests units t r standing count room)) (hour_changed units r.hour true (hour_by day r held) place)))
      (hour_units s r.hour) (proportions_by_lem s r)
      ∙ by_on (verdict (record_rows s r standing count room)) start _ _
      (ap (λ (x : HourResult). posted_with s b r.hour settled_mark x place count) (hour_by_lem s r held))

  -- the same behind its text
  text_on : (again : Bool) (a : Result ℕ TextRefusal) (r : Record) (start : ℕ)
      → decision_of s.units b count start
      (record_decided (hour_sheet s r.hour) (hour_commitments b (r.hour - 1)) again (is_settled b r.hour) (record { answer = a; read = r }) count room)
      ≡ by_verdict (verdict (text_rows a ++ record_rows s r (standing_row again (is_settled b r.hour)) count room)) (recorded_at s b r (place_after start a) count)
      (refused_with b count start)
  unfolding verdict record_decided
  text_on again (Ok place) r start = read_on r start place (standing_row again (is_settled b r.hour))
  text_on again (Err x) r start = refl

  pub record_on : (again : Bool) (text : List ℕ) (start : ℕ)
      → decision_of s.units b count start (recorded s b again text start count room) ≡ request_decided s b (request_of s (record_of again text start)) count room
  unfolding request_rows accepted_in
  record_on true text start = let g = given s text start in text_on true g.answer g.read start
  record_on false text start = let g = given s text start in text_on false g.answer g.read start

  abbrev VoidOn : ℕ → ℕ → Type 0
  VoidOn hour h =
      decision_of s.units b count 0 (void_decided s.units hour (eqb (mark_at b h) settled_mark) count room)
      ≡ by_verdict (verdict (void_rows s b hour count room)) (voided_at s b hour count) (refused_with b count 0)

  void_in : (hour h : ℕ) → h ≡ hour - 1 → VoidOn hour h
  unfolding void_decided
  void_in hour h e =
      (λ i. decision_of s.units b count 0 (void_decided s.units hour (eqb (mark_at b (e i)) settled_mark) count room))
      ∙ by_on (verdict (void_rows s b hour count room)) 0 _ _ refl

  void_bad : (hour h : ℕ) → bad_hour hour ≡ true → VoidOn hour h
  unfolding void_decided verdict
  void_bad hour h e = simp e

  pub void_on : (hour h : ℕ) → h ≡ hour_index hour
      → decision_of s.units b count 0 (void_decided s.units hour (eqb (mark_at b h) settled_mark) count room) ≡ request_decided s b (request_of s (void hour)) count room
  unfolding request_rows accepted_in
  void_on hour h eh = by (bad_hour hour) refl
    where
      by : (t : Bool) → bad_hour hour ≡ t → VoidOn hour h
      by true e = void_bad hour h e
      by false e = void_in hour h (eh ∙ (in_hour hour e).0)
