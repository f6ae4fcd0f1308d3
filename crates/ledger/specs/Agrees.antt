-- 01, Book and journal: "Book and journal equal the ledger when commitments, energies and amounts agree, exactly the hours with a record are
-- marked settled, and the postings up to the count are the ledger's in order."
use Rattle.std.specs.Prelude.{◌≡◌, ℕ, ◌+◌, ◌≤◌, ◌<◌, length, take}
use Rattle.sheet.specs.declared.Sheet.{Sheet}
use Rattle.state.specs.Sizes.{hours, places, items}
use Rattle.state.specs.Book.{Sized, commitment_at, mark_at, energy_at, amount_at, open_mark, settled_mark}
use Rattle.ledger.specs.Ledger.{Kept, none, kept, Ledger, energy_of, amount_in}
use Rattle.ledger.specs.Calls.{State}

abbrev pub mark_of : Kept → ℕ
mark_of none = open_mark
mark_of (kept r) = settled_mark

-- hours and places of the book are counted from 0, hours and units of the ledger from 1
pub record Agrees (sheet : Sheet) (room : ℕ) (st : State) (l : Ledger) : Type 0 where
  pub sized : Sized st.book
  pub places_are : length st.journal ≡ room
  pub counted : st.count ≡ length l.postings
  pub fits : st.count ≤ room
  pub entries : take st.count st.journal ≡ l.postings
  pub commitments : (h k : ℕ) → h < hours → k < places → (commitment_at st.book h k).0 ≡ l.commitment (h + 1) (k + 1)
  pub marks : (h : ℕ) → h < hours → mark_at st.book h ≡ mark_of (l.standing (h + 1))
  pub energies : (h k : ℕ) → h < hours → k < places → (energy_at st.book h k).0 ≡ energy_of sheet l (h + 1) k
  pub amounts : (h k i : ℕ) → h < hours → k < places → i < items → amount_at st.book h k i ≡ amount_in sheet l (h + 1) k i
