-- The postings of a call from place to place: those of a unit stand behind those of the units before it.
-- Assumes nothing.
use mathlib.Core.Path.{◌≡◌, refl}
use mathlib.Core.Bool.{Bool, true, false}
use mathlib.Core.List.{List, [], ◌++◌, append-nil}
use Prim.Native.Nat.{ℕ, zero, suc, ◌+◌, ◌*◌, ◌≤◌, ◌<◌}
use native.Mathlib.Numerals.{add-one}
use native.Mathlib.Omega.{arith}
use lib.ListN.{length, get_or, length-append}
use Rattle.finite.proofs.Tables.{length_tabulate, get_d_tabulate}
use Rattle.units.specs.Units.{member_at, members}
use Rattle.units.proofs.Laws.{members_zero, members_in, members_out}
use Rattle.settlement.specs.declared.Amounts.{Amounts}
use Rattle.state.specs.Sizes.{places, items}
use Rattle.state.specs.Book.{past_amounts}
use Rattle.postings.specs.declared.Posting.{Posting}
use Rattle.postings.specs.Journal.{no_posting}
use Rattle.postings.specs.Plan.{posting_of, unit_postings, postings_to}

module _ (hour k : ℕ) (old new : Amounts) where
  pub unit_length : length (unit_postings hour k old new) ≡ items
  unfolding unit_postings
  unit_length = length_tabulate items _

  pub unit_at_lem : (i : ℕ) → i < items → get_or (unit_postings hour k old new) i no_posting ≡ posting_of hour k old new i
  unfolding unit_postings
  unit_at_lem i l = get_d_tabulate items (posting_of hour k old new) i no_posting l

-- the first places
module _ (hour units : ℕ) (old new : List Amounts) where
  -- one place more
  module _ (k : ℕ) where
    pub to_in : member_at units k ≡ true
        → postings_to hour units old new (k + 1)
        ≡ postings_to hour units old new k ++ unit_postings hour k (get_or old k past_amounts) (get_or new k past_amounts)
    unfolding postings_to
    to_in m = rw (add-one, m)

    pub to_outside : member_at units k ≡ false → postings_to hour units old new (k + 1) ≡ postings_to hour units old new k
    unfolding postings_to
    to_outside m = rw (add-one, m) (append-nil (postings_to hour units old new k))

  pub to_none : postings_to hour units old new 0 ≡ []
  unfolding postings_to
  to_none = refl

  -- from place to place: nothing yet, a unit of the plant, a place outside it
  pub places_ind : (P : ℕ → List Posting → Type 0) → P 0 []
      → ((k : ℕ) (l : List Posting) → k < places → member_at units k ≡ true → P k l → P (k + 1) (l ++ unit_postings hour k (get_or old k past_amounts) (get_or new k past_amounts)))
      → ((k : ℕ) (l : List Posting) → k < places → member_at units k ≡ false → P k l → P (k + 1) l)
      → (n : ℕ) → n ≤ places → P n (postings_to hour units old new n)
  places_ind P none more pass zero l = rw to_none none
  places_ind P none more pass (suc n) l =
      rw (← add-one n) (by (member_at units n) refl (places_ind P none more pass n (omega arith)))
    where
      by : (t : Bool) → member_at units n ≡ t → P n (postings_to hour units old new n)
          → P (n + 1) (postings_to hour units old new (n + 1))
      by true m below = rw (to_in n m) (more n (postings_to hour units old new n) (omega arith) m below)
      by false m below = rw (to_outside n m) (pass n (postings_to hour units old new n) (omega arith) m below)

  pub to_length : (n : ℕ) → n ≤ places → length (postings_to hour units old new n) ≡ items * members units n
  to_length =
      places_ind (λ k l. length l ≡ items * members units k) (rw (members_zero units))
      (λ k l a m e.
      rw (members_in units k m, length-append, unit_length hour k (get_or old k past_amounts) (get_or new k past_amounts)) (omega arith))
      (λ k l a m e. rw (members_out units k a m) e)
