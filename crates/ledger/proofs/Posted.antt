-- The postings of a unit and item add up to its amounts over the hours that stand: a call that posts changes one hour's amount, and posts
-- the new value less the old one; a call that moves a commitment does so in an open hour, whose amounts are 0.
-- Assumes nothing.
use mathlib.Core.Path.{◌≡◌, refl, ap, sym, ◌∙◌}
use mathlib.Core.Bool.{Bool, true, false, cond}
use mathlib.Core.List.{List, [], ◌∷◌, ◌++◌}
use Prim.Native.Nat.{ℕ, zero, suc, ◌+◌, ◌-◌, ◌≤◌, ◌<◌}
use native.Mathlib.Nat.{not-suc-le-zero}
use native.Mathlib.Decide.{ℕ_discrete}
use native.Mathlib.Omega.{arith}
use borrow.Author.Tests.{eq-eqb, ne_eqb}
use lib.IntN.{ℤ, pos, ◌+ℤ◌, ◌-ℤ◌, +ℤ_idl, +ℤ_idr}
use Rattle.finite.specs.Finite.{tabulate}
use Rattle.units.specs.Units.{member_at}
use Rattle.units.proofs.Laws.{place_lt}
use Rattle.sheet.specs.declared.Sheet.{Sheet}
use Rattle.postings.specs.declared.Posting.{Posting}
use Rattle.ledger.specs.Ledger.{Call, take, release, move, settle, restate, void, Kept, none, kept, Ledger, Outcome, stands, at, with_held, amount_for, amount_in, posts, restated, conditions_of, start_of, effect_of, step, run}
use Rattle.postings.specs.Journal.{total_of}
use Rattle.ledger.specs.Reckoned.{sum_z, of_item}
use Rattle.ledger.proofs.Told.{Clear, none, Told, refuses, accepts, step_told}
use Rattle.ledger.proofs.Accepted.{record_told, apart, take_open, release_open, move_open, void_hour}
use Rattle.ledger.proofs.Signed.{sum_z_same, sum_z_none, sum_z_change, sum_z_single, add_append, add_tabulate}

-- the postings of one call, of the unit at place k and item i
module _ (sheet : Sheet) (hour : ℕ) (old new : Kept) (f : ℕ → ℕ) (k i : ℕ) (item : i < 5) where
  row : ℕ → ℕ → Posting
  row n j = record { hour = hour; unit = n + 1; item = j + 1; amount = amount_for sheet new f n j -ℤ amount_for sheet old f n j }

  -- a unit's five
  five_other : (n : ℕ) → (n ≡ k → ⊥) → total_of (k + 1) (i + 1) (tabulate 5 (row n)) ≡ pos 0
  unfolding row
  five_other n d =
      add_tabulate (k + 1) (i + 1) 5 (row n)
      ∙ sum_z_none 5 (λ j. of_item (k + 1) (i + 1) (row n j))
      (λ j l. simp (ne_eqb (n + 1) (k + 1) (λ e. d (omega arith))))

  five_same : total_of (k + 1) (i + 1) (tabulate 5 (row k)) ≡ amount_for sheet new f k i -ℤ amount_for sheet old f k i
  unfolding row
  five_same =
      add_tabulate (k + 1) (i + 1) 5 (row k)
      ∙ (sum_z_single 5 i (λ j. of_item (k + 1) (i + 1) (row k j)) item
      (λ j l d. simp (eq-eqb (k + 1) (k + 1) refl, ne_eqb (j + 1) (i + 1) (λ e. d (omega arith))))
      ∙ simp (eq-eqb (k + 1) (k + 1) refl, eq-eqb (i + 1) (i + 1) refl))

  -- the places before k, and those up to one past it
  posts_before : (n : ℕ) → n ≤ k → total_of (k + 1) (i + 1) (posts sheet hour old new f n) ≡ pos 0
  unfolding posts total_of row
  posts_before zero h = refl
  posts_before (suc n) h = by (member_at sheet.units n) (posts_before n (omega arith))
    where
      by : (t : Bool) → total_of (k + 1) (i + 1) (posts sheet hour old new f n) ≡ pos 0
          → total_of (k + 1) (i + 1) (cond t (posts sheet hour old new f n ++ tabulate 5 (row n)) (posts sheet hour old new f n)) ≡ pos 0
      by true r =
          add_append (k + 1) (i + 1) (posts sheet hour old new f n) (tabulate 5 (row n))
          ∙ (ap (λ (z : ℤ). z +ℤ total_of (k + 1) (i + 1) (tabulate 5 (row n))) r ∙ (+ℤ_idl _ ∙ five_other n (λ e. omega arith)))
      by false r = r

  pub posts_total : member_at sheet.units k ≡ true → (n : ℕ) → k < n
      → total_of (k + 1) (i + 1) (posts sheet hour old new f n) ≡ amount_for sheet new f k i -ℤ amount_for sheet old f k i
  unfolding posts row
  posts_total m zero h = absurd (not-suc-le-zero h)
  posts_total m (suc n) h = go (ℕ_discrete n k) (λ l. posts_total m n l)
    where
      last : n ≡ k → total_of (k + 1) (i + 1) (posts sheet hour old new f (suc n)) ≡ amount_for sheet new f k i -ℤ amount_for sheet old f k i
      last e =
          let t : member_at sheet.units n ≡ true = ap (member_at sheet.units) e ∙ m in
          simp t
          (add_append (k + 1) (i + 1) (posts sheet hour old new f n) (tabulate 5 (row n))
          ∙ (ap (λ (z : ℤ). z +ℤ total_of (k + 1) (i + 1) (tabulate 5 (row n))) (posts_before n (omega arith))
          ∙ (+ℤ_idl _ ∙ (ap (λ (x : ℕ). total_of (k + 1) (i + 1) (tabulate 5 (row x))) e ∙ five_same))))

      earlier : (n ≡ k → ⊥) → total_of (k + 1) (i + 1) (posts sheet hour old new f n) ≡ amount_for sheet new f k i -ℤ amount_for sheet old f k i
          → (t : Bool) → total_of (k + 1) (i + 1) (cond t (posts sheet hour old new f n ++ tabulate 5 (row n)) (posts sheet hour old new f n))
          ≡ amount_for sheet new f k i -ℤ amount_for sheet old f k i
      earlier d r true =
          add_append (k + 1) (i + 1) (posts sheet hour old new f n) (tabulate 5 (row n))
          ∙ (ap (λ (z : ℤ). total_of (k + 1) (i + 1) (posts sheet hour old new f n) +ℤ z) (five_other n d) ∙ (+ℤ_idr _ ∙ r))
      earlier d r false = r

      go : Dec (n ≡ k) → (k < n → total_of (k + 1) (i + 1) (posts sheet hour old new f n) ≡ amount_for sheet new f k i -ℤ amount_for sheet old f k i)
          → total_of (k + 1) (i + 1) (posts sheet hour old new f (suc n)) ≡ amount_for sheet new f k i -ℤ amount_for sheet old f k i
      go (yes e) r = last e
      go (no d) r = earlier d (r (omega arith)) (member_at sheet.units n)

-- the ledger's sums, of a unit of the plant and an item
module _ (sheet : Sheet) (room k i : ℕ) (in-plant : member_at sheet.units k ≡ true) (item : i < 5) where
  pub Sums : Ledger → Type 0
  Sums l = total_of (k + 1) (i + 1) l.postings ≡ sum_z 24 (λ h. amount_in sheet l (h + 1) k i)

  place : k < 8
  place = place_lt sheet.units k in-plant

  -- an open hour's commitments may change
  open_amount : (s : Kept) (f g : ℕ → ℕ) → stands s ≡ false → amount_for sheet s g k i ≡ amount_for sheet s f k i
  open_amount none f g e = refl
  open_amount (kept r) f g e = absurd (let z : ◌≡◌ {A = ℕ} 0 1 = cc in omega arith)

  moved_sums : (l : Ledger) (g : ℕ → ℕ → ℕ) (hour : ℕ) → stands (l.standing hour) ≡ false → ((h : ℕ) → (h ≡ hour → ⊥) → g h ≡ l.commitment h)
      → Sums l → Sums (record { commitment = g; standing = l.standing; postings = l.postings })
  unfolding Sums
  moved_sums l g hour o same s =
      s ∙ sym (sum_z_same 24 (λ h. amount_for sheet (l.standing (h + 1)) (g (h + 1)) k i) (λ h. amount_in sheet l (h + 1) k i) (λ h b. each (h + 1) (ℕ_discrete (h + 1) hour)))
    where
      each : (h : ℕ) → Dec (h ≡ hour) → amount_for sheet (l.standing h) (g h) k i ≡ amount_in sheet l h k i
      each h (yes e) = open_amount (l.standing h) (l.commitment h) (g h) (ap (λ (n : ℕ). stands (l.standing n)) e ∙ o)
      each h (no d) = ap (λ (f : ℕ → ℕ). amount_for sheet (l.standing h) f k i) (same h d)

  -- an hour's record gives way to another, and the difference is posted
  posted_sums : (l : Ledger) (hour : ℕ) (new : Kept) (place : ℕ) → 1 ≤ hour → hour ≤ 24 → Sums l → Sums (restated sheet l hour new place).ledger
  unfolding Sums
  posted_sums l hour new pl low high s =
      add_append (k + 1) (i + 1) l.postings (posts sheet hour (l.standing hour) new (l.commitment hour) 8)
      ∙ (ap (λ (z : ℤ). z +ℤ total_of (k + 1) (i + 1) (posts sheet hour (l.standing hour) new (l.commitment hour) 8)) s
      ∙ (ap (λ (z : ℤ). sum_z 24 before +ℤ z)
      (posts_total sheet hour (l.standing hour) new (l.commitment hour) k i item in-plant 8 place ∙ sym difference)
      ∙ sym (sum_z_change 24 (hour - 1) before after (omega arith) other)))
    where
      before : ℕ → ℤ
      before h = amount_in sheet l (h + 1) k i

      after : ℕ → ℤ
      after h = amount_for sheet (at l.standing hour new (h + 1)) (l.commitment (h + 1)) k i

      back : hour - 1 + 1 ≡ hour
      back = omega arith

      difference : after (hour - 1) -ℤ before (hour - 1) ≡ amount_for sheet new (l.commitment hour) k i -ℤ amount_for sheet (l.standing hour) (l.commitment hour) k i
      difference = rw back (simp (eq-eqb hour hour refl))

      other : (h : ℕ) → h < 24 → (h ≡ hour - 1 → ⊥) → after h ≡ before h
      other h b d = simp (ne_eqb (h + 1) hour (λ e. d (omega arith)))

  effect_sums : (l : Ledger) (c : Call) → Clear (conditions_of sheet room l c) → Sums l → Sums (effect_of sheet l c).ledger
  unfolding conditions_of effect_of
  effect_sums l (take hour unit kwh) clear s =
      let f = l.commitment in
      moved_sums l (with_held f hour unit (f hour unit + kwh)) hour (take_open sheet room l hour unit kwh clear) (apart f hour unit (f hour unit + kwh)) s
  effect_sums l (release hour unit kwh) clear s =
      let f = l.commitment in
      moved_sums l (with_held f hour unit (f hour unit - kwh)) hour (release_open sheet room l hour unit kwh clear) (apart f hour unit (f hour unit - kwh)) s
  effect_sums l (move hour from to kwh) clear s =
      let f = l.commitment in
      let g = with_held f hour from (f hour from - kwh) in
      moved_sums l (with_held g hour to (f hour to + kwh)) hour (move_open sheet room l hour from to kwh clear)
      (λ h d. apart g hour to (f hour to + kwh) h d ∙ apart f hour from (f hour from - kwh) h d) s
  effect_sums l (settle text start) clear s =
      let r = (record_told sheet room l text start _ clear).range in posted_sums l _ _ 0 r.hour_least r.hour_most s
  effect_sums l (restate text start) clear s =
      let r = (record_told sheet room l text start _ clear).range in posted_sums l _ _ 0 r.hour_least r.hour_most s
  effect_sums l (void hour) clear s = let b = void_hour sheet room l hour clear in posted_sums l hour none 0 b.0 b.1 s

  step_sums : (l : Ledger) (c : Call) → Sums l → Sums (step sheet room l c).ledger
  step_sums l c s = by (step sheet room l c) (step_told sheet room l c)
    where
      by : (o : Outcome) → Told l (start_of c) (conditions_of sheet room l c) (effect_of sheet l c) o → Sums o.ledger
      by o (refuses number line b e) = rw e s
      by o (accepts clear e) = rw e (effect_sums l c clear s)

  pub run_sums : (calls : List Call) (l : Ledger) → Sums l → Sums (run sheet room l calls).ledger
  unfolding run
  run_sums [] l s = s
  run_sums (c ∷ cs) l s = run_sums cs (step sheet room l c).ledger (step_sums l c s)

  -- what the sums say, and how they begin
  pub sums_open : (l : Ledger) → Sums l → total_of (k + 1) (i + 1) l.postings ≡ sum_z 24 (λ h. amount_in sheet l (h + 1) k i)
  unfolding Sums
  sums_open l s = s

  pub sums_close : (l : Ledger) → total_of (k + 1) (i + 1) l.postings ≡ sum_z 24 (λ h. amount_in sheet l (h + 1) k i) → Sums l
  unfolding Sums
  sums_close l s = s
