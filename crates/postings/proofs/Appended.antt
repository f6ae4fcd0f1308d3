-- The postings of a call appended unit by unit: those of the first places stand in the list one after the other, and those of a unit go behind them. At the end
-- they are the rows of the plan, of which as many count as there are postings.
-- Assumes nothing.
use mathlib.Core.Path.{◌≡◌, sym, ap, ◌∙◌}
use mathlib.Core.Bool.{true, false}
use mathlib.Core.List.{List, ◌++◌}
use Prim.Native.Nat.{ℕ, ◌+◌, ◌*◌, ◌≤◌, ◌<◌}
use native.Mathlib.Omega.{arith}
use lib.ListN.{length, get_or, take, drop}
use lib.Seq.{paste, paste-zero, length-paste, take_at, take_all}
use Rattle.std.proofs.lemmas.List.Edits.{paste-paste}
use Rattle.units.specs.Units.{member_at, members}
use Rattle.units.proofs.Laws.{count_members, members_zero, members_in, members_out, members_mono}
use Rattle.settlement.specs.declared.Amounts.{Amounts}
use Rattle.state.specs.Sizes.{places, items}
use Rattle.state.specs.Book.{past_amounts}
use Rattle.postings.specs.declared.Posting.{Posting}
use Rattle.postings.specs.Plan.{unit_postings, postings_to, postings_of, entry_size, padded, plan_of}
use Rattle.postings.proofs.Rows.{unit_length, to_in, to_outside, to_length}
use Rattle.postings.proofs.Posted.{postings_length}

module _ (start : List Posting) (at hour units : ℕ) (old new : List Amounts) where
  -- the list after those of the first k places, and the place behind them
  pub record Appended (k next : ℕ) (l : List Posting) : Type 0 where
    pub next_is : next ≡ at + items * members units k
    pub list_is : l ≡ paste start at (postings_to hour units old new k) (items * members units k)

  pub appended_none : Appended 0 at start
  appended_none =
      let z : items * members units 0 ≡ 0 = omega (arith, members_zero units) in
      record { next_is = omega (arith, z); list_is = paste-zero start at (postings_to hour units old new 0) ∙ ap (paste start at (postings_to hour units old new 0)) (sym z) }

  module _ (room : at + entry_size units ≤ length start) (b : units < 256) (k next : ℕ) (l : List Posting) (s : Appended k next l) (below : k < places) where
    few : items * members units (k + 1) ≤ entry_size units
    few = omega (arith, members_mono units (k + 1) places (omega arith), count_members units b)

    pub appended_long : items * members units k ≤ entry_size units → length l ≡ length start
    appended_long h =
        ap length s.list_is
        ∙ length-paste start at (postings_to hour units old new k) (items * members units k) (omega (arith, room, h))
        (omega (arith, to_length hour units old new k (omega arith)))

    module _ (m : member_at units k ≡ true) where
      one_more : items * members units (k + 1) ≡ items * members units k + items
      one_more = omega (arith, members_in units k m)

      -- there is room for a unit of the plant
      pub appended_room : next + items ≤ length l
      appended_room = omega (arith, s.next_is, appended_long (omega (arith, few, one_more)), one_more, few, room)

      pub appended_in : (l' : List Posting) → l' ≡ paste l next (unit_postings hour k (get_or old k past_amounts) (get_or new k past_amounts)) items
          → Appended (k + 1) (next + items) l'
      appended_in l' e =
          let p = postings_to hour units old new k in
          let u = unit_postings hour k (get_or old k past_amounts) (get_or new k past_amounts) in
          let n = items * members units k in
          record {
            next_is = omega (arith, s.next_is, one_more);
            list_is =
                e
                ∙ ((λ i. paste (s.list_is i) (s.next_is i) u items)
                ∙ (paste-paste start at p u n items (sym (to_length hour units old new k (omega arith))) (sym (unit_length hour k (get_or old k past_amounts) (get_or new k past_amounts)))
                (omega (arith, room))
                ∙ (λ i. paste start at (sym (to_in hour units old new k m) i) (sym one_more i))));
          }

    pub appended_out : member_at units k ≡ false → Appended (k + 1) next l
    appended_out m =
        let same : items * members units k ≡ items * members units (k + 1) = omega (arith, members_out units k below m) in
        record {
          next_is = omega (arith, s.next_is, same);
          list_is = s.list_is ∙ (λ i. paste start at (sym (to_outside hour units old new k m) i) (same i));
        }

  -- after all places: as many rows of the plan as there are postings
  pub appended_all : units < 256 → (next : ℕ) (l : List Posting) → Appended places next l → l ≡ paste start at (plan_of hour units old new).row (entry_size units)
  unfolding postings_of plan_of padded
  appended_all b next l s =
      let p = postings_of hour units old new in
      let n : length p ≡ entry_size units = postings_length hour units old new b in
      let m : items * members units places ≡ entry_size units = omega (arith, count_members units b) in
      let front : take (entry_size units) p ≡ take (entry_size units) (padded p) =
      take_all (entry_size units) p (omega (arith, n)) ∙ sym (take_at p _ (entry_size units) n) in
      s.list_is
      ∙ (ap (paste start at p) m
      ∙ ap (λ (x : List Posting). take at start ++ x ++ drop (at + entry_size units) start) front)
