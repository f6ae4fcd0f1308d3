-- What every call is given, what 9 and 12 say of it (01, table of refusals), and a good sheet, book and journal with each of their
-- values to be put in. Hours, units, items and steps are counted from 1.
use Rattle.std.specs.Prelude.{cond, ◌&&◌, List, [], ◌∷◌, ℕ, ◌*◌, ◌-◌, ℤ, pos, negsuc, length, take, set, replicate, Ok, Err}
use Rattle.finite.specs.Finite.{tabulate}
use Rattle.energy.specs.declared.GrossKwh.{GrossKwh}
use Rattle.energy.specs.declared.HubKwh.{HubKwh}
use Rattle.energy.specs.declared.HubGrains.{HubGrains}
use Rattle.offer.specs.declared.Step.{Step}
use Rattle.offer.specs.declared.Offer.{Offer}
use Rattle.sheet.specs.declared.UnitSheet.{UnitSheet}
use Rattle.sheet.specs.declared.Sheet.{Sheet}
use Rattle.sheet.specs.Ranges.{sheet_holds}
use Rattle.settlement.specs.declared.Amounts.{Amounts}
use Rattle.state.specs.declared.Book.{Book}
use Rattle.state.specs.Sizes.{entry_of}
use Rattle.state.specs.Ranges.{book_holds}
use Rattle.postings.specs.declared.Posting.{Posting}
use Rattle.postings.specs.Journal.{count_holds, posted_hold}
use Rattle.ledger.specs.Answers.{Verdict}
use Rattle.ledger.specs.Numbers.{refusal_number}

-- sheet, book, and the journal: a count and a list of places
pub record Given : Type 0 where
  pub sheet : Sheet
  pub book : Book
  pub count : ℕ
  pub journal : List Posting

-- the number that every call refuses it with: 9, then 12; 0 where neither condition holds. `refusal_is` (proofs/Always.antt) says that it is
-- the verdict of the two rows with which every call begins
unfoldable pub refusal : Given → ℕ
refusal g =
    let posted = posted_hold (take g.count g.journal) in
    cond (sheet_holds g.sheet) (cond (book_holds g.sheet g.book && (count_holds g.count (length g.journal) && posted)) 0 12) 9

-- document 01's number of a verdict, 0 where nothing is refused
abbrev pub number_of : Verdict → ℕ
number_of (Ok tt) = 0
number_of (Err r) = refusal_number r

-- what neither looks at: the sheet's values of units outside the plant, by unit; an offer's places past its steps; and, by the place in
-- the journal, what stands past the count, and all but the amount of what is counted
pub record Free : Type 0 where
  pub outside : ℕ → UnitSheet
  pub later_steps : List Step
  pub contents : ℕ → Posting

abbrev pub hub : ℕ → HubKwh
hub n = record { 0 = n }

abbrev pub gross : ℕ → GrossKwh
gross n = record { 0 = n }

abbrev pub grains : ℕ → HubGrains
grains n = record { 0 = n }

-- a pair quantity:price
abbrev pub pair : ℕ → ℕ → Step
pair quantity price = record { quantity = hub quantity; price = price }

-- the offer 50000:380000,110000:390000,130000:440000
abbrev pub good_offer : Free → Offer
good_offer free =
    record { steps = 3; step = pair 50000 380000 ∷ pair 110000 390000 ∷ pair 130000 440000 ∷ free.later_steps }

-- ten steps, 10:100,20:200, .., 100:1000
abbrev pub ten_steps : List Step
ten_steps =
    pair 10 100
    ∷ pair 20 200
    ∷ pair 30 300
    ∷ pair 40 400
    ∷ pair 50 500
    ∷ pair 60 600
    ∷ pair 70 700
    ∷ pair 80 800
    ∷ pair 90 900
    ∷ pair 100 1000
    ∷ []

abbrev pub offer_of : ℕ → List Step → Offer
offer_of steps step = record { steps = steps; step = step }

abbrev pub unit_of : (own nominal monthly : ℕ) → List Offer → UnitSheet
unit_of own nominal monthly offers = record { own = own; nominal = gross nominal; monthly = gross monthly; offers = offers }

abbrev pub good_offers : Free → List Offer
good_offers free = replicate 24 (good_offer free)

abbrev pub good_unit : Free → UnitSheet
good_unit free = unit_of 300 120000 110000 (good_offers free)

abbrev pub sheet_of : (month day loss ceiling bar : ℕ) → List ℕ → ℕ → List UnitSheet → Sheet
sheet_of month day loss ceiling bar cpf units unit =
    record { month = month; day = day; loss = loss; ceiling = ceiling; bar = bar; cpf = cpf; units = units; unit = unit }

abbrev pub good_cpf : List ℕ
good_cpf = replicate 24 1000

-- the plant has units 1 and 8
abbrev pub good_units : ℕ
good_units = 129

abbrev pub plant : Free → List UnitSheet
plant free =
    let outside = free.outside in
    good_unit free ∷ outside 2 ∷ outside 3 ∷ outside 4 ∷ outside 5 ∷ outside 6 ∷ outside 7 ∷ good_unit free ∷ []

abbrev pub good_sheet : Free → Sheet
good_sheet free = sheet_of 2 10 100 440000 100000 good_cpf good_units (plant free)

abbrev pub book_of : List HubKwh → List ℕ → List HubGrains → List Amounts → Book
book_of commitment mark energy amounts = record { commitment = commitment; mark = mark; energy = energy; amounts = amounts }

abbrev pub no_commitments : List HubKwh
no_commitments = replicate 192 (hub 0)

abbrev pub open_hours : List ℕ
open_hours = replicate 24 0

abbrev pub no_energies : List HubGrains
no_energies = replicate 192 (grains 0)

abbrev pub no_items : List ℤ
no_items = replicate 5 (pos 0)

abbrev pub no_amounts : List Amounts
no_amounts = replicate 192 (record { item = no_items })

abbrev pub good_book : Book
good_book = book_of no_commitments open_hours no_energies no_amounts

-- the posting of a place, with this amount
abbrev pub posting_of : Free → ℕ → ℤ → Posting
posting_of free place amount =
    let x = free.contents place in
    record { hour = x.hour; unit = x.unit; item = x.item; amount = amount }

-- seven places, of which the first three hold postings of these amounts
abbrev pub journal_of : Free → (first second third : ℤ) → List Posting
journal_of free first second third =
    let past = free.contents in
    posting_of free 1 first ∷ posting_of free 2 second ∷ posting_of free 3 third ∷ past 4 ∷ past 5 ∷ past 6 ∷ past 7 ∷ []

abbrev pub good_journal : Free → List Posting
good_journal free = journal_of free (pos 1000) (pos 0) (negsuc 999)

abbrev pub given : Sheet → Book → ℕ → List Posting → Given
given sheet book count journal = record { sheet = sheet; book = book; count = count; journal = journal }

abbrev pub good : Free → Given
good free = given (good_sheet free) good_book 3 (good_journal free)

-- the same with another sheet, with another unit of the plant, with another offer of it
abbrev pub with_sheet : Free → Sheet → Given
with_sheet free sheet = given sheet good_book 3 (good_journal free)

abbrev pub sheet_with : Free → ℕ → UnitSheet → Sheet
sheet_with free unit u = sheet_of 2 10 100 440000 100000 good_cpf good_units (set (plant free) (unit - 1) u)

abbrev pub with_unit : Free → ℕ → UnitSheet → Given
with_unit free unit u = with_sheet free (sheet_with free unit u)

abbrev pub offering : Free → ℕ → Offer → UnitSheet
offering free hour offer = unit_of 300 120000 110000 (set (good_offers free) (hour - 1) offer)

abbrev pub with_offer : Free → (hour unit : ℕ) → Offer → Given
with_offer free hour unit offer = with_unit free unit (offering free hour offer)

-- the same with another book
abbrev pub with_book : Free → Book → Given
with_book free book = given (good_sheet free) book 3 (good_journal free)

-- the values of the sheet
abbrev pub month : Free → ℕ → Given
month free n = with_sheet free (sheet_of n 10 100 440000 100000 good_cpf good_units (plant free))

abbrev pub day_of : ℕ → Free → ℕ → Given
day_of month free n = with_sheet free (sheet_of month n 100 440000 100000 good_cpf good_units (plant free))

abbrev pub loss : Free → ℕ → Given
loss free n = with_sheet free (sheet_of 2 10 n 440000 100000 good_cpf good_units (plant free))

abbrev pub ceiling : Free → ℕ → Given
ceiling free n = with_sheet free (sheet_of 2 10 100 n 100000 good_cpf good_units (plant free))

abbrev pub bar : Free → ℕ → Given
bar free n = with_sheet free (sheet_of 2 10 100 440000 n good_cpf good_units (plant free))

abbrev pub cpf : ℕ → Free → ℕ → Given
cpf hour free n = with_sheet free (sheet_of 2 10 100 440000 100000 (set good_cpf (hour - 1) n) good_units (plant free))

-- eight good units, of which the plant has those of the mask
abbrev pub units : Free → ℕ → Given
units free n = with_sheet free (sheet_of 2 10 100 440000 100000 good_cpf n (replicate 8 (good_unit free)))

abbrev pub own : ℕ → Free → ℕ → Given
own unit free n = with_unit free unit (unit_of n 120000 110000 (good_offers free))

abbrev pub nominal : ℕ → Free → ℕ → Given
nominal unit free n = with_unit free unit (unit_of 300 n 110000 (good_offers free))

abbrev pub monthly : ℕ → Free → ℕ → Given
monthly unit free n = with_unit free unit (unit_of 300 120000 n (good_offers free))

abbrev pub steps : (hour unit : ℕ) → Free → ℕ → Given
steps hour unit free n = with_offer free hour unit (offer_of n ten_steps)

-- of an offer of ten steps
abbrev pub quantity : (hour unit step : ℕ) → Free → ℕ → Given
quantity hour unit step free n = with_offer free hour unit (offer_of 10 (set ten_steps (step - 1) (pair n (100 * step))))

abbrev pub price : (hour unit step : ℕ) → Free → ℕ → Given
price hour unit step free n = with_offer free hour unit (offer_of 10 (set ten_steps (step - 1) (pair (10 * step) n)))

-- the values of the book
abbrev pub entry : (hour unit : ℕ) → ℕ
entry hour unit = entry_of (hour - 1) (unit - 1)

abbrev pub committed : (hour unit : ℕ) → ℕ → Book
committed hour unit n = book_of (set no_commitments (entry hour unit) (hub n)) open_hours no_energies no_amounts

abbrev pub commitment : (hour unit : ℕ) → Free → ℕ → Given
commitment hour unit free n = with_book free (committed hour unit n)

-- under an offer of so many of the ten steps in that hour
abbrev pub commitment_under : ℕ → (hour unit : ℕ) → Free → ℕ → Given
commitment_under steps hour unit free n =
    given (sheet_with free unit (offering free hour (offer_of steps ten_steps))) (committed hour unit n) 3 (good_journal free)

abbrev pub mark : ℕ → Free → ℕ → Given
mark hour free n = with_book free (book_of no_commitments (set open_hours (hour - 1) n) no_energies no_amounts)

abbrev pub energy : (hour unit : ℕ) → Free → ℕ → Given
energy hour unit free n = with_book free (book_of no_commitments open_hours (set no_energies (entry hour unit) (grains n)) no_amounts)

abbrev pub amount : (hour unit item : ℕ) → Free → ℤ → Given
amount hour unit item free z =
    with_book free
    (book_of no_commitments open_hours no_energies (set no_amounts (entry hour unit) (record { item = set no_items (item - 1) z })))

-- the count, over a list of so many places
abbrev pub count_in : ℕ → Free → ℕ → Given
count_in places free n = given (good_sheet free) good_book n (replicate places (posting_of free 1 (pos 0)))

-- the amounts posted first and last, the count being 3
abbrev pub first_posted : Free → ℤ → Given
first_posted free z = given (good_sheet free) good_book 3 (journal_of free z (pos 0) (pos 0))

abbrev pub last_posted : Free → ℤ → Given
last_posted free z = given (good_sheet free) good_book 3 (journal_of free (pos 0) (pos 0) z)

-- a list of which nothing is counted
abbrev pub uncounted : Free → Given
uncounted free = given (good_sheet free) good_book 0 (tabulate 7 free.contents)

-- a sheet of month 13 and a count above the list
abbrev pub both_broken : Free → Given
both_broken free = given (sheet_of 13 10 100 440000 100000 good_cpf good_units (plant free)) good_book 8 (good_journal free)
