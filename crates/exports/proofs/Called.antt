-- What is left by a list of calls, in the two cases of the sheet's text.
-- Assumes nothing.
use Rattle.std.specs.Prelude.{Result, Ok, Err}
use mathlib.Core.Path.{◌≡◌, sym, ap, ◌∙◌}
use mathlib.Core.List.{List}
use Prim.Native.Nat.{ℕ, min}
use lib.IntN.{ℤ}
use Rattle.lines.specs.declared.TextRefusal.{TextRefusal}
use Rattle.lines.specs.Refusals.{text_number}
use Rattle.sheet_text.specs.Day.{SheetTold}
use Rattle.sheet_text.specs.Day.{read_sheet}
use Rattle.exports.specs.Exports.{most_places, held_numbers, amount_numbers, Owned, owned_of, Left, refused_sheet, carried_out, left_by, called_of}

module _ (sheet : List ℕ) (places : ℕ) (calls text answers held : List ℕ) (amounts postings : List ℤ) (read : SheetTold) (is : read ≡ read_sheet sheet 0) where
  called_is : (a : Result ℕ TextRefusal) → read.answer ≡ a → left_by a read.sheet (min places most_places) calls text answers held amounts postings ≡ called_of sheet places calls text answers held amounts postings
  unfolding called_of
  called_is a e =
      ap (λ (z : Result ℕ TextRefusal). left_by z read.sheet (min places most_places) calls text answers held amounts postings) (sym e)
      ∙ ap (λ (z : SheetTold). left_by z.answer z.sheet (min places most_places) calls text answers held amounts postings) is

  -- the text is refused
  pub called_refused : (r : TextRefusal) (n m : ℕ) → read.answer ≡ Err r → n ≡ text_number r → m ≡ r.line → refused_sheet n m answers held amounts postings ≡ called_of sheet places calls text answers held amounts postings
  called_refused r n m e f g =
      ap (λ (z : ℕ). refused_sheet z m answers held amounts postings) f ∙ (ap (λ (z : ℕ). refused_sheet (text_number r) z answers held amounts postings) g ∙ called_is (Err r) e)

  -- the calls are carried out, over a list of n places
  pub called_read : (place n : ℕ) (o : Owned) (new : List ℕ) (paid : List ℤ) → read.answer ≡ Ok place → n ≡ min places most_places → o ≡ owned_of read.sheet n calls text answers postings
      → new ≡ held_numbers o.ran.book held → paid ≡ amount_numbers o.ran.book amounts
      → ◌≡◌ {A = Left} (record { number = 0; line = 0; count = o.ran.count; answers = o.answers; held = new; amounts = paid; postings = o.postings }) (called_of sheet places calls text answers held amounts postings)
  called_read place n o new paid e k f h i =
      ap (λ (z : List ℕ). record { number = 0; line = 0; count = o.ran.count; answers = o.answers; held = z; amounts = paid; postings = o.postings }) h
      ∙ (ap (λ (z : List ℤ). record { number = 0; line = 0; count = o.ran.count; answers = o.answers; held = held_numbers o.ran.book held; amounts = z; postings = o.postings }) i
      ∙ (ap (λ (z : Owned). carried_out z held amounts) f
      ∙ (ap (λ (z : ℕ). carried_out (owned_of read.sheet z calls text answers postings) held amounts) k
      ∙ called_is (Ok place) e)))
