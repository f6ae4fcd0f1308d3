-- A list of calls under a sheet given as a text: what is written into the slices that are lent for it. A slice that is too short gets what it
-- has room for, and a longer one keeps the rest.
use Rattle.std.specs.Prelude.{Result, Ok, Err}
use Rattle.lines.specs.declared.TextRefusal.{TextRefusal}
use Rattle.std.specs.Prelude.{cond, List, [], ◌∷◌, ℕ, zero, suc, ◌+◌, ◌*◌, ◌/◌, min, ltb, ℤ, pos, length, get_or, set, replicate}
use Rattle.std.proofs.Math.Seq.{paste}
use Rattle.lines.specs.Refusals.{text_number}
use Rattle.sheet.specs.declared.Sheet.{Sheet}
use Rattle.sheet_text.specs.Day.{read_sheet}
use Rattle.settlement.specs.declared.Amounts.{Amounts}
use Rattle.state.specs.declared.Book.{Book}
use Rattle.state.specs.Book.{empty_book, no_kwh, no_grains, past_amounts, item_of}
use Rattle.state.specs.Sizes.{hours, items, entries}
use Rattle.postings.specs.declared.Posting.{Posting}
use Rattle.postings.specs.Journal.{no_posting}
use Rattle.journal.specs.declared.Ran.{Ran}
use Rattle.journal.specs.Run.{Running, start_on, turns_of, ran_all}

-- the values of a table stored one after the other from the place `at` on
unfoldable pub put : {A : Type 0} → List A → (at : ℕ) → (ℕ → A) → ℕ → List A
put l at f zero = l
put l at f (suc k) = set (put l at f k) (at + k) (f k)

-- "The book holds commitments, hour marks, and a settled hour's energies and amounts by unit": 192 commitments, 24 marks, 192 energies
abbrev pub commitment_numbers : Book → List ℕ → List ℕ
commitment_numbers b l = put l 0 (λ k. (get_or b.commitment k no_kwh).0) entries

abbrev pub mark_numbers : Book → List ℕ → List ℕ
mark_numbers b l = put l entries (λ k. get_or b.mark k 0) hours

abbrev pub energy_numbers : Book → List ℕ → List ℕ
energy_numbers b l = put l (entries + hours) (λ k. (get_or b.energy k no_grains).0) entries

abbrev pub held_numbers : Book → List ℕ → List ℕ
held_numbers b l = energy_numbers b (mark_numbers b (commitment_numbers b l))

-- the five items of an hour and unit, and of the first of them
abbrev pub item_numbers : List ℤ → ℕ → Amounts → List ℤ
item_numbers l j a = put l (items * j) (item_of a) items

unfoldable pub amounts_to : Book → List ℤ → ℕ → List ℤ
amounts_to b l zero = l
amounts_to b l (suc k) = item_numbers (amounts_to b l k) k (get_or b.amounts k past_amounts)

abbrev pub amount_numbers : Book → List ℤ → List ℤ
amount_numbers b l = amounts_to b l entries

-- a posting in four places of a slice: hour, unit, item and amount; a number that no signed word holds is 0
abbrev pub signed_of : ℕ → ℤ
signed_of x = cond (ltb x 9223372036854775808) (pos x) (pos 0)

unfoldable pub posting_stored : List ℤ → ℕ → Posting → List ℤ
posting_stored l k x =
    cond (ltb k (length l / 4))
    (paste l (4 * k) (signed_of x.hour ∷ signed_of x.unit ∷ signed_of x.item ∷ x.amount ∷ []) 4)
    l

-- the first places of a journal list
unfoldable pub listed_to : List ℤ → List Posting → ℕ → List ℤ
listed_to l list zero = l
listed_to l list (suc k) = posting_stored (listed_to l list k) k (get_or list k no_posting)

-- the longest journal list: "up to 100,000 in all", and the forty postings of one call past it
abbrev pub most_places : ℕ
most_places = 100040

-- "Demand 3's calls share one list of places, of any length and contents, with count 0 at first": here of `places` places, all empty
unfoldable pub own_start : (places : ℕ) → List ℕ → Running
own_start places answers = start_on (replicate places no_posting) answers 0 empty_book

abbrev pub end_of : Sheet → (places : ℕ) → (calls text answers : List ℕ) → Running
end_of sheet places calls text answers = ran_all sheet calls text (own_start places answers) (turns_of (length calls) (length answers))

-- what the calls hand on, their answers, and the journal list in numbers
pub record Owned : Type 0 where
  pub ran : Ran
  pub answers : List ℕ
  pub postings : List ℤ

abbrev pub owned_by : Running → List ℤ → Owned
owned_by end postings = record { ran = record { book = end.book; count = end.count }; answers = end.answers; postings = listed_to postings end.list (length end.list) }

abbrev pub owned_of : Sheet → (places : ℕ) → (calls text answers : List ℕ) → List ℤ → Owned
owned_of sheet places calls text answers postings = owned_by (end_of sheet places calls text answers) postings

-- the numbers and slices after the calls
pub record Left : Type 0 where
  pub number : ℕ
  pub line : ℕ
  pub count : ℕ
  pub answers : List ℕ
  pub held : List ℕ
  pub amounts : List ℤ
  pub postings : List ℤ

-- "A refusal returns its number, and for 1 to 4 the line": a sheet's text that is refused; no call is carried out, and the slices stay
abbrev pub refused_sheet : (number line : ℕ) → (answers held : List ℕ) → (amounts postings : List ℤ) → Left
refused_sheet number line answers held amounts postings =
    record { number = number; line = line; count = 0; answers = answers; held = held; amounts = amounts; postings = postings }

-- the calls carried out: answers, count, the book in numbers, and the journal list
abbrev pub carried_out : Owned → List ℕ → List ℤ → Left
carried_out o held amounts =
    record {
      number = 0;
      line = 0;
      count = o.ran.count;
      answers = o.answers;
      held = held_numbers o.ran.book held;
      amounts = amount_numbers o.ran.book amounts;
      postings = o.postings;
    }

abbrev pub left_by : Result ℕ TextRefusal → Sheet → (places : ℕ) → (calls text answers held : List ℕ) → (amounts postings : List ℤ) → Left
left_by (Err r) sheet places calls text answers held amounts postings =
    refused_sheet (text_number r) r.line answers held amounts postings
left_by (Ok place) sheet places calls text answers held amounts postings =
    carried_out (owned_of sheet places calls text answers postings) held amounts

-- the sheet is the text's, from its first byte on; a longer list than the longest is cut to it
unfoldable pub called_of : (sheet : List ℕ) → (places : ℕ) → (calls text answers held : List ℕ) → (amounts postings : List ℤ) → Left
called_of sheet places calls text answers held amounts postings =
    left_by (read_sheet sheet 0).answer (read_sheet sheet 0).sheet (min places most_places) calls text answers held amounts postings
