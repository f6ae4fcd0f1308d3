-- Demand 3: one promise about every list of calls, from the empty book and a journal list of any length and contents with count 0, under
-- any one sheet. Each field is a sentence of the demand.
use Rattle.std.specs.Prelude.{◌≡◌, Bool, true, not, ◌&&◌, List, [], ◌∷◌, ℕ, ◌+◌, ◌-◌, ◌≤◌, ◌<◌, length, get_or, take, drop}
use Rattle.finite.specs.Finite.{tabulate}
use Rattle.energy.specs.declared.HubGrains.{HubGrains}
use Rattle.units.specs.Units.{member_at}
use Rattle.allocation.specs.Allocation.{Allocated}
use Rattle.sheet.specs.declared.Sheet.{Sheet}
use Rattle.sheet.specs.Ranges.{sheet_holds}
use Rattle.record.specs.declared.Record.{Record}
use Rattle.settlement.specs.Hour.{plant_of}
use Rattle.settlement.specs.Charge.{ChargeNear}
use Rattle.state.specs.declared.Book.{Book}
use Rattle.state.specs.Book.{commitment_at, energy_at, amount_at, hour_commitments}
use Rattle.postings.specs.declared.Posting.{Posting}
use Rattle.postings.specs.Journal.{posted_hold, total_of}
use Rattle.ledger.specs.Ledger.{Call, void, Kept, none, kept, Condition, Reply, empty_ledger, amount_for, conditions_of, run}
use Rattle.ledger.specs.Reckoned.{accepted, took, gave, last_from, sum_z}
use Rattle.ledger.specs.Calls.{State, book_fits}
use Rattle.ledger.specs.Total.{total_by, item_of, total_on}
use Rattle.ledger.specs.Agrees.{Agrees}

-- no listed condition holds
unfoldable pub none_holds : List Condition → Bool
none_holds [] = true
none_holds (c ∷ cs) = not c.holds && none_holds cs

-- reply n; a reply past the end is never asked for
abbrev pub reply_at : List Reply → ℕ → Reply
reply_at replies n = get_or replies n (record { number = 0; line = 0; posted = 0; place = 0 })

-- an hour's energies in the book, by place
unfoldable pub hour_energies : Book → ℕ → List HubGrains
hour_energies b h = tabulate 8 (energy_at b h)

-- a unit's commitment in an hour, reckoned from the calls and their answers
abbrev pub reckoned : List Call → List Reply → (hour unit : ℕ) → ℕ
reckoned calls replies hour unit = took hour unit calls replies - gave hour unit calls replies

-- the record that stands for an hour, reckoned likewise
abbrev pub standing : Sheet → List Call → List Reply → (hour : ℕ) → Kept
standing sheet calls replies hour = last_from sheet hour none calls replies

pub record Demand (sheet : Sheet) (journal : List Posting) (calls : List Call) (replies : List Reply) (st : State) : Type 0 where
  -- every answer is the ledger's: number, line, postings, text place
  pub answered : replies ≡ (run sheet (length journal) empty_ledger calls).replies
  -- each call was accepted exactly when no listed condition held on the ledger of the calls before it
  pub accepted_when : (n : ℕ) → n < length calls
      → accepted (reply_at replies n) ≡ none_holds (conditions_of sheet (length journal) (run sheet (length journal) empty_ledger (take n calls)).ledger (get_or calls n (void 0)))
  -- book and journal equal the ledger
  pub agrees : Agrees sheet (length journal) st (run sheet (length journal) empty_ledger calls).ledger
  -- the places past the count are as they were
  pub free_places : drop st.count st.journal ≡ drop st.count journal
  -- each unit's commitment in an hour is what accepted calls took and moved in less what they released and moved out
  pub commitments : (hour unit : ℕ) → 1 ≤ hour → hour ≤ 24 → 1 ≤ unit → unit ≤ 8
      → (commitment_at st.book (hour - 1) (unit - 1)).0 + gave hour unit calls replies ≡ took hour unit calls replies
  -- in each hour that stands settled the energies add up to the plant's net hub energy, each within its ceiling, and every other such split
  -- costs at least as much before rounding
  pub energies : (hour : ℕ) (r : Record) → 1 ≤ hour → hour ≤ 24 → standing sheet calls replies hour ≡ kept r
      → Allocated r.net r.reverse (plant_of sheet r (hour_commitments st.book (hour - 1))) (hour_energies st.book (hour - 1))
  -- where a unit's failed test is charged in such an hour, the charge that the book holds never exceeds the exact product, and falls short of it
  -- by under 130 Rial (01, Five items, 4; 02, wish 1: with the new W)
  pub charges : (hour : ℕ) (r : Record) (k : ℕ) → 1 ≤ hour → hour ≤ 24 → standing sheet calls replies hour ≡ kept r → member_at sheet.units k ≡ true
      → ChargeNear sheet r k (energy_at st.book (hour - 1) k) (amount_at st.book (hour - 1) k 3)
  -- for each unit and item the journal adds up to the formulas' amounts over the hours that stand, each from its last accepted record
  pub postings : (k i : ℕ) → member_at sheet.units k ≡ true → i < 5
      → total_of (k + 1) (i + 1) (take st.count st.journal)
      ≡ sum_z 24 (λ h. amount_for sheet (standing sheet calls replies (h + 1)) (reckoned calls replies (h + 1)) k i)
  -- and that is what a total call then answers; only 9 and 11 can refuse it
  pub totals : (unit item : ℕ)
      → total_on sheet st unit item
      ≡ total_by (sheet_holds sheet) true (item_of sheet unit item)
      (sum_z 24 (λ h. amount_for sheet (standing sheet calls replies (h + 1)) (reckoned calls replies (h + 1)) (unit - 1) (item - 1)))
  -- book and journal stay in their ranges: 12 never refuses a call
  pub in_ranges : book_fits sheet st.book st.count (length st.journal) (posted_hold (take st.count st.journal)) ≡ true
