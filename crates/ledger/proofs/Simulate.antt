-- Every call on a book and a journal that agree with a ledger is answered as the ledger answers it, and leaves them in agreement.
-- Assumes nothing.
use Rattle.std.specs.Prelude.{Result, Ok, Err}
use Rattle.lines.specs.declared.TextRefusal.{TextRefusal}
use mathlib.Core.Path.{◌≡◌, refl, ap, sym, ◌∙◌, subst}
use mathlib.Core.Bool.{Bool, true, false, not, ◌||◌}
use mathlib.Core.List.{List, [], ◌∷◌, ◌++◌}
use Prim.Native.Nat.{ℕ, ◌+◌, ◌-◌, ◌*◌, ◌≤◌, min}
use native.Mathlib.Omega.{arith}
use borrow.Author.Tests.{ltb-false, not-false}
use lib.Dec.{ltb}
use lib.ListN.{length, take as first_of}
use Rattle.finite.proofs.Tables.{tabulate_same}
use Rattle.energy.specs.declared.HubKwh.{HubKwh}
use Rattle.energy.specs.declared.HubGrains.{HubGrains}
use Rattle.settlement.specs.declared.Amounts.{Amounts}
use Rattle.units.specs.Units.{is_member, unit_count}
use Rattle.units.proofs.Laws.{member}
use Rattle.sheet.specs.declared.Sheet.{Sheet}
use Rattle.sheet.specs.Ranges.{sheet_holds}
use Rattle.sheet.proofs.InRange.{in_range_lem}
use Rattle.record.specs.declared.Record.{Record}
use Rattle.settlement.specs.Hour.{hour_result}
use Rattle.state.specs.Book.{commitment_at, hour_commitments, no_result, open_mark, settled_mark}
use Rattle.state.proofs.Writing.{commitment_mark, commitment_energy, commitment_amounts, commitment_sized}
use Rattle.state.proofs.Empty.{none_energy, none_amounts, none_amount}
use Rattle.postings.specs.Journal.{posted_hold}
use Rattle.ledger.specs.Numbers.{refusal_number, refusal_line}
use Rattle.ledger.specs.Ledger.{Call, take, release, move, settle, restate, void, none, kept, Ledger, Condition, when, stands, given, hour_held, always, text_condition, take_conditions, release_conditions, move_conditions, record_conditions, void_conditions, no_room, ledger_fits, bad_hour as bad_hour_of, place_of, restated, changed, conditions_of, effect_of, step, with_held as with_held_of}
use Rattle.ledger.specs.Calls.{State, Row, always_rows, take_rows, release_rows, move_rows, text_rows, record_rows, void_rows, request_rows, held_kwh, with_held, changed_to, posted_with, place_after, recorded_in, accepted_in, decided, request_of, record_request}
use Rattle.ledger.specs.Agrees.{Agrees}
use Rattle.ledger.proofs.Told.{Clear, none, more}
use Rattle.ledger.proofs.Accepted.{Taken, given_range, hour_told, record_told, clear_right, apart, void_hour}
use Rattle.ledger.proofs.Ready.{Ready, fits_told, taken_stands}
use Rattle.ledger.proofs.Rows.{Beside, done, next, beside}
use Rattle.ledger.proofs.Fits.{fits_same}
use Rattle.ledger.proofs.Follow.{Follows, hour_same, stays, settled_same, held_same, over_same, changes, written}
use Rattle.ledger.proofs.Settled.{Kept-ready, items_length}
use Rattle.ledger.proofs.Posting.{posts_follow}

abbrev posted_in : State → Bool
posted_in st = posted_hold (first_of st.count st.journal)

module _ (sheet : Sheet) (room : ℕ) (st : State) (l : Ledger) (a : Agrees sheet room st l) where
  -- 9 and 12 hold alike
  pub always_beside : (rs : List Row) (cs : List Condition) → (sheet_holds sheet ≡ true → Beside rs cs)
      → Beside (always_rows sheet st.book st.count (length st.journal) (posted_in st) ++ rs) (always sheet room l ++ cs)
  always_beside rs cs more' =
      next refl refl refl (λ e9. next refl refl (ap not (fits_same sheet room st l a)) (λ e12. more' (not-false (sheet_holds sheet) e9)))

  take_beside : (hour unit kwh : ℕ) → Beside (take_rows sheet st.book hour unit kwh) (take_conditions sheet l hour unit kwh)
  take_beside hour unit kwh =
      next refl refl (hour_same hour) (λ e10. let h = hour_told hour e10 in
      next refl refl refl (λ e11.
      next refl refl (settled_same sheet room st l a hour h.0 h.1) (λ e20.
      next refl refl refl (λ e21.
      next refl refl (over_same sheet room st l a hour h.0 h.1 unit (not-false _ e11) kwh) (λ e22. done)))))

  release_beside : (hour unit kwh : ℕ) → Beside (release_rows sheet st.book hour unit kwh) (release_conditions sheet l hour unit kwh)
  release_beside hour unit kwh =
      next refl refl (hour_same hour) (λ e10. let h = hour_told hour e10 in
      next refl refl refl (λ e11.
      next refl refl (settled_same sheet room st l a hour h.0 h.1) (λ e20.
      next refl refl refl (λ e21.
      next refl refl (ap (λ (n : ℕ). ltb n kwh) (held_same sheet room st l a hour h.0 h.1 unit (not-false _ e11))) (λ e23. done)))))

  members_told : (from to : ℕ) → (not (is_member sheet.units from) || not (is_member sheet.units to)) ≡ false
      → (is_member sheet.units from ≡ true) × (is_member sheet.units to ≡ true)
  members_told from to = by (is_member sheet.units from) (is_member sheet.units to)
    where
      by : (t u : Bool) → (not t || not u) ≡ false → (t ≡ true) × (u ≡ true)
      by true true e = (refl, refl)
      by true false e = absurd (let z : ◌≡◌ {A = ℕ} 0 1 = cc in omega arith)
      by false u e = absurd (let z : ◌≡◌ {A = ℕ} 0 1 = cc in omega arith)

  move_beside : (hour from to kwh : ℕ) → Beside (move_rows sheet st.book hour from to kwh) (move_conditions sheet l hour from to kwh)
  move_beside hour from to kwh =
      next refl refl (hour_same hour) (λ e10. let h = hour_told hour e10 in
      next refl refl refl (λ e11. let m = members_told from to e11 in
      next refl refl refl (λ e24.
      next refl refl (settled_same sheet room st l a hour h.0 h.1) (λ e20.
      next refl refl refl (λ e21.
      next refl refl (ap (λ (n : ℕ). ltb n kwh) (held_same sheet room st l a hour h.0 h.1 from m.0)) (λ e23.
      next refl refl (over_same sheet room st l a hour h.0 h.1 to m.1 kwh) (λ e22. done)))))))

  -- 42: the same free places
  room_same : ltb (min (length st.journal) 100000 - st.count) (5 * unit_count sheet.units) ≡ no_room sheet room l
  room_same =
      ap (λ (n : ℕ). ltb (min n 100000 - st.count) (5 * unit_count sheet.units)) a.places_are
      ∙ ap (λ (n : ℕ). ltb (min room 100000 - n) (5 * unit_count sheet.units)) a.counted

  void_beside : (hour : ℕ) → Beside (void_rows sheet st.book hour st.count (length st.journal)) (void_conditions sheet room l hour)
  void_beside hour =
      next refl refl (hour_same hour) (λ e10. let h = hour_told hour e10 in
      next refl refl (ap not (settled_same sheet room st l a hour h.0 h.1)) (λ e41.
      next refl refl room_same (λ e42. done)))

  -- the rows of a record, whose hour is in range where it was read
  text_beside : (r : Result ℕ TextRefusal) (rs : List Row) (cs : List Condition) → ((place : ℕ) → r ≡ Ok place → Beside rs cs)
      → Beside (text_rows r ++ rs) (text_condition r ++ cs)
  text_beside (Ok place) rs cs f = f place refl
  text_beside (Err t) rs cs f = next refl refl refl (λ (e : true ≡ false). absurd (let z : ◌≡◌ {A = ℕ} 0 1 = cc in omega arith))

  record_beside : (r : Record) (s : Row) (c : Condition) → refusal_number s.refusal ≡ c.number → refusal_line s.refusal ≡ c.line → s.holds ≡ c.holds
      → Beside (record_rows sheet r s st.count (length st.journal)) (record_conditions sheet room l r c)
  record_beside r s c n i h =
      next refl refl refl (λ e31. next n i h (λ e40. next refl refl refl (λ e32. next refl refl refl (λ e33. next refl refl room_same (λ e42. done)))))

  -- what an accepted take, release or move tells
  plain_told : (hour unit : ℕ) (c3 c4 c5 : Condition) → Clear (always sheet room l ++ (when 10 (bad_hour_of hour) ∷ when 11 (not (is_member sheet.units unit)) ∷ c3 ∷ c4 ∷ c5 ∷ []))
      → (1 ≤ hour) × (hour ≤ 24) × (is_member sheet.units unit ≡ true) × (c3.holds ≡ false)
  plain_told hour unit c3 c4 c5 (more x (more y (more h (more u (more t rest))))) =
      let r = hour_told hour h in (r.0, r.1, not-false (is_member sheet.units unit) u, t)

  -- one commitment written
  module _ (hour unit : ℕ) (low : 1 ≤ hour) (high : hour ≤ 24) (in-plant : is_member sheet.units unit ≡ true) (o : stands (l.standing hour) ≡ false) where
    abbrev f : ℕ → ℕ → ℕ
    f = l.commitment

    one_written : (x y : ℕ) → x ≡ y → Follows sheet room st (changed_to (with_held st.book hour unit x) st.count) (changed l (with_held_of f hour unit y))
    one_written x y e =
        let m = member sheet.units unit in-plant in
        let q : HubKwh = record { 0 = x } in
        subst (λ (y : ℕ). Follows sheet room st (changed_to (with_held st.book hour unit x) st.count) (changed l (with_held_of f hour unit y))) e
        (changes sheet room st l a (with_held st.book hour unit x) (with_held_of f hour unit x) hour o (apart f hour unit x)
        (commitment_sized st.book (hour - 1) (unit - 1) q a.sized)
        (commitment_mark st.book (hour - 1) (unit - 1) q) (commitment_energy st.book (hour - 1) (unit - 1) q) (commitment_amounts st.book (hour - 1) (unit - 1) q)
        (written st.book f hour unit x a.sized low high m.least m.most a.commitments))

    -- and a second one
    two_written : (to x y : ℕ) → is_member sheet.units to ≡ true → (x' y' : ℕ) → x ≡ x' → y ≡ y'
        → Follows sheet room st (changed_to (with_held (with_held st.book hour unit x) hour to y) st.count) (changed l (with_held_of (with_held_of f hour unit x') hour to y'))
    two_written to x y target x' y' ex ey =
        let m = member sheet.units unit in-plant in
        let t = member sheet.units to target in
        let q : HubKwh = record { 0 = x } in
        let p : HubKwh = record { 0 = y } in
        let first = with_held st.book hour unit x in
        let g = with_held_of f hour unit x in
        let sized = commitment_sized st.book (hour - 1) (unit - 1) q a.sized in
        subst (λ (z : ℕ). Follows sheet room st (changed_to (with_held first hour to y) st.count) (changed l (with_held_of (with_held_of f hour unit z) hour to y'))) ex
        (subst (λ (z : ℕ). Follows sheet room st (changed_to (with_held first hour to y) st.count) (changed l (with_held_of g hour to z))) ey
        (changes sheet room st l a (with_held first hour to y) (with_held_of g hour to y) hour o (λ h d. apart g hour to y h d ∙ apart f hour unit x h d)
        (commitment_sized first (hour - 1) (to - 1) p sized)
        (commitment_mark first (hour - 1) (to - 1) p ∙ commitment_mark st.book (hour - 1) (unit - 1) q)
        (commitment_energy first (hour - 1) (to - 1) p ∙ commitment_energy st.book (hour - 1) (unit - 1) q)
        (commitment_amounts first (hour - 1) (to - 1) p ∙ commitment_amounts st.book (hour - 1) (unit - 1) q)
        (written first g hour to y sized low high t.least t.most (written st.book f hour unit x a.sized low high m.least m.most a.commitments))))

  pub follow_take : (hour unit kwh : ℕ) → Follows sheet room st
      (decided sheet st.book (request_of sheet (take hour unit kwh)) st.count (length st.journal) (posted_in st)) (step sheet room l (take hour unit kwh))
  unfolding decided request_rows accepted_in step conditions_of effect_of
  follow_take hour unit kwh =
      beside (Follows sheet room st) l 0 _ _ _ (stays sheet room st l a 0) _ _ (always_beside _ _ (λ _. take_beside hour unit kwh)) accept
    where
      accept : Clear (always sheet room l ++ take_conditions sheet l hour unit kwh)
          → Follows sheet room st (changed_to (with_held st.book hour unit (held_kwh st.book hour unit + kwh)) st.count)
          (changed l (with_held_of l.commitment hour unit (l.commitment hour unit + kwh)))
      accept clear =
          let t = plain_told hour unit _ _ _ clear in
          one_written hour unit t.0 t.1 t.2 t.3 (held_kwh st.book hour unit + kwh) (l.commitment hour unit + kwh)
          (ap (λ (n : ℕ). n + kwh) (held_same sheet room st l a hour t.0 t.1 unit t.2))

  pub follow_release : (hour unit kwh : ℕ) → Follows sheet room st
      (decided sheet st.book (request_of sheet (release hour unit kwh)) st.count (length st.journal) (posted_in st)) (step sheet room l (release hour unit kwh))
  unfolding decided request_rows accepted_in step conditions_of effect_of
  follow_release hour unit kwh =
      beside (Follows sheet room st) l 0 _ _ _ (stays sheet room st l a 0) _ _ (always_beside _ _ (λ _. release_beside hour unit kwh)) accept
    where
      accept : Clear (always sheet room l ++ release_conditions sheet l hour unit kwh)
          → Follows sheet room st (changed_to (with_held st.book hour unit (held_kwh st.book hour unit - kwh)) st.count)
          (changed l (with_held_of l.commitment hour unit (l.commitment hour unit - kwh)))
      accept clear =
          let t = plain_told hour unit _ _ _ clear in
          one_written hour unit t.0 t.1 t.2 t.3 (held_kwh st.book hour unit - kwh) (l.commitment hour unit - kwh)
          (ap (λ (n : ℕ). n - kwh) (held_same sheet room st l a hour t.0 t.1 unit t.2))

  move_told : (hour from to kwh : ℕ) → Clear (always sheet room l ++ move_conditions sheet l hour from to kwh)
      → (1 ≤ hour) × (hour ≤ 24) × (is_member sheet.units from ≡ true) × (is_member sheet.units to ≡ true) × (stands (l.standing hour) ≡ false)
  move_told hour from to kwh (more x (more y (more h (more u (more d (more o rest)))))) =
      let r = hour_told hour h in
      let m = members_told from to u in (r.0, r.1, m.0, m.1, o)

  pub follow_move : (hour from to kwh : ℕ) → Follows sheet room st
      (decided sheet st.book (request_of sheet (move hour from to kwh)) st.count (length st.journal) (posted_in st)) (step sheet room l (move hour from to kwh))
  unfolding decided request_rows accepted_in step conditions_of effect_of
  follow_move hour from to kwh =
      beside (Follows sheet room st) l 0 _ _ _ (stays sheet room st l a 0) _ _ (always_beside _ _ (λ _. move_beside hour from to kwh)) accept
    where
      accept : Clear (always sheet room l ++ move_conditions sheet l hour from to kwh)
          → Follows sheet room st
          (changed_to (with_held (with_held st.book hour from (held_kwh st.book hour from - kwh)) hour to (held_kwh st.book hour to + kwh)) st.count)
          (changed l (with_held_of (with_held_of l.commitment hour from (l.commitment hour from - kwh)) hour to (l.commitment hour to + kwh)))
      accept clear =
          let t = move_told hour from to kwh clear in
          two_written hour from t.0 t.1 t.2 t.4 to (held_kwh st.book hour from - kwh) (held_kwh st.book hour to + kwh) t.3 (l.commitment hour from - kwh) (l.commitment hour to + kwh)
          (ap (λ (n : ℕ). n - kwh) (held_same sheet room st l a hour t.0 t.1 from t.2))
          (ap (λ (n : ℕ). n + kwh) (held_same sheet room st l a hour t.0 t.1 to t.3))

  -- the postings of an accepted call fit
  free_told : no_room sheet room l ≡ false → 5 * unit_count sheet.units ≤ min room 100000 - st.count
  free_told e =
      let n : 5 * unit_count sheet.units ≤ min room 100000 - length l.postings = ltb-false _ _ e in
      omega (arith, a.counted)

  module _ (ready : Ready sheet l) where
    old_ready : (hour : ℕ) → Kept-ready sheet hour (l.standing hour) (l.commitment hour)
    old_ready hour r e = ready.each hour r e

    void_told : (hour : ℕ) → Clear (always sheet room l ++ void_conditions sheet room l hour) → (sheet_holds sheet ≡ true) × (no_room sheet room l ≡ false)
    void_told hour (more x (more y (more h (more o (more n none))))) = (not-false (sheet_holds sheet) x, n)

    pub follow_void : (hour : ℕ) → Follows sheet room st
        (decided sheet st.book (request_of sheet (void hour)) st.count (length st.journal) (posted_in st)) (step sheet room l (void hour))
    unfolding decided request_rows accepted_in step conditions_of effect_of
    follow_void hour =
        beside (Follows sheet room st) l 0 _ _ _ (stays sheet room st l a 0) _ _ (always_beside _ _ (λ _. void_beside hour)) accept
      where
        accept : Clear (always sheet room l ++ void_conditions sheet room l hour)
            → Follows sheet room st (posted_with sheet st.book hour open_mark no_result 0 st.count) (restated sheet l hour none 0)
        accept clear =
            let h = void_hour sheet room l hour clear in
            let t = void_told hour clear in
            posts_follow sheet room st l a hour h.0 h.1 (omega (arith, (in_range_lem sheet t.0).units_most)) none no_result (old_ready hour)
            (λ r e. absurd (let z : ◌≡◌ {A = ℕ} 0 1 = cc in omega arith))
            (λ k lk m. ap (λ (g : HubGrains). g.0) (none_energy k))
            (λ k i lk li m. none_amount k i lk)
            (λ k lk. ap (λ (x : Amounts). length x.item) (none_amounts k lk))
            (free_told t.1) 0

    -- the hour's commitments, by the book and by the ledger
    held_list : (hour : ℕ) → 1 ≤ hour → hour ≤ 24 → hour_commitments st.book (hour - 1) ≡ hour_held (l.commitment hour)
    unfolding hour_commitments
    held_list hour low high =
        tabulate_same 8 (commitment_at st.book (hour - 1)) (λ k. record { 0 = l.commitment hour (k + 1) })
        (λ k lk. let e : hour - 1 + 1 ≡ hour = omega arith in
        λ i. record { 0 = (a.commitments (hour - 1) k (omega arith) lk ∙ ap (λ (n : ℕ). l.commitment n (k + 1)) e) i })

    place_same : (start : ℕ) (r : Result ℕ TextRefusal) → place_after start r ≡ place_of start r
    place_same start (Ok place) = refl
    place_same start (Err t) = refl

    -- an accepted settle or restate
    recorded : (text : List ℕ) (start : ℕ) (q : ℕ) → Taken sheet text start → ledger_fits sheet room l ≡ true → no_room sheet room l ≡ false
        → Follows sheet room st (recorded_in sheet st.book (record_request sheet q text start) st.count)
        (restated sheet l (given sheet text start).read.hour (kept (given sheet text start).read) (place_of start (given sheet text start).answer))
    recorded text start q t fits free =
        let r = (given sheet text start).read in
        let hour = r.hour in
        let low = t.range.hour_least in
        let high = t.range.hour_most in
        let stand = taken_stands sheet room l text start t fits in
        let same = held_list hour low high in
        subst (λ (p : ℕ). Follows sheet room st (recorded_in sheet st.book (record_request sheet q text start) st.count) (restated sheet l hour (kept r) p)) (place_same start (given sheet text start).answer)
        (subst (λ (c : List HubKwh). Follows sheet room st (posted_with sheet st.book hour settled_mark (hour_result sheet r c) (place_after start (given sheet text start).answer) st.count) (restated sheet l hour (kept r) (place_after start (given sheet text start).answer))) (sym same)
        (posts_follow sheet room st l a hour low high (omega (arith, (in_range_lem sheet t.holds).units_most)) (kept r) (hour_result sheet r (hour_held (l.commitment hour)))
        (old_ready hour) stand (λ k lk m. refl) (λ k i lk li m. refl)
        (items_length sheet r (hour_held (l.commitment hour)))
        (free_told free) (place_after start (given sheet text start).answer)))

    last_told : (text : List ℕ) (start : ℕ) (c : Condition)
        → Clear (always sheet room l ++ (text_condition (given sheet text start).answer ++ record_conditions sheet room l (given sheet text start).read c))
        → no_room sheet room l ≡ false
    last_told text start c clear =
        by (clear_right (text_condition (given sheet text start).answer) _ (clear_right (always sheet room l) _ clear))
      where
        by : Clear (record_conditions sheet room l (given sheet text start).read c) → no_room sheet room l ≡ false
        by (more x (more y (more z (more w (more n none))))) = n

    -- the rows of a settle and of a restate
    given_beside : (text : List ℕ) (start : ℕ) (s : Row) (c : Condition) → refusal_number s.refusal ≡ c.number → refusal_line s.refusal ≡ c.line
        → ((1 ≤ (given sheet text start).read.hour) → ((given sheet text start).read.hour ≤ 24) → s.holds ≡ c.holds)
        → Beside (always_rows sheet st.book st.count (length st.journal) (posted_in st) ++ (text_rows (given sheet text start).answer ++ record_rows sheet (given sheet text start).read s st.count (length st.journal)))
        (always sheet room l ++ (text_condition (given sheet text start).answer ++ record_conditions sheet room l (given sheet text start).read c))
    given_beside text start s c n i h =
        always_beside _ _ (λ t. text_beside (given sheet text start).answer _ _ (λ place e.
        let r = given_range sheet t text start place e in
        record_beside (given sheet text start).read s c n i (h r.hour_least r.hour_most)))

    pub follow_settle : (text : List ℕ) (start : ℕ) → Follows sheet room st
        (decided sheet st.book (request_of sheet (settle text start)) st.count (length st.journal) (posted_in st)) (step sheet room l (settle text start))
    unfolding decided request_rows accepted_in step conditions_of effect_of
    follow_settle text start =
        beside (Follows sheet room st) l start _ _ _ (stays sheet room st l a start) _ _
        (given_beside text start _ _ refl refl (λ low high. settled_same sheet room st l a (given sheet text start).read.hour low high))
        (λ clear. recorded text start 4 (record_told sheet room l text start _ clear) (fits_told sheet room l _ clear) (last_told text start _ clear))

    pub follow_restate : (text : List ℕ) (start : ℕ) → Follows sheet room st
        (decided sheet st.book (request_of sheet (restate text start)) st.count (length st.journal) (posted_in st)) (step sheet room l (restate text start))
    unfolding decided request_rows accepted_in step conditions_of effect_of
    follow_restate text start =
        beside (Follows sheet room st) l start _ _ _ (stays sheet room st l a start) _ _
        (given_beside text start _ _ refl refl (λ low high. ap not (settled_same sheet room st l a (given sheet text start).read.hour low high)))
        (λ clear. recorded text start 5 (record_told sheet room l text start _ clear) (fits_told sheet room l _ clear) (last_told text start _ clear))

    -- any call
    pub follow : (c : Call) → Follows sheet room st
        (decided sheet st.book (request_of sheet c) st.count (length st.journal) (posted_in st)) (step sheet room l c)
    follow (take hour unit kwh) = follow_take hour unit kwh
    follow (release hour unit kwh) = follow_release hour unit kwh
    follow (move hour from to kwh) = follow_move hour from to kwh
    follow (settle text start) = follow_settle text start
    follow (restate text start) = follow_restate text start
    follow (void hour) = follow_void hour
