-- The plain ledger of document 01 ("Book and journal"): a commitment for each hour and unit, at most one record an hour and a sequence of
-- postings. It is written from the sheet, the journal list's length and the calls' arguments alone; of the book's definitions it uses none.
use Rattle.std.specs.Prelude.{Result, Ok, Err}
use Rattle.lines.specs.declared.TextRefusal.{TextRefusal}
use Rattle.std.specs.Prelude.{ℕ, zero, suc, ◌+◌, ◌-◌, ◌*◌, min, Bool, true, false, cond, not, ◌&&◌, ◌||◌, List, [], ◌∷◌, ◌++◌, ltb, leb, eqb, ℤ, pos, nat_abs, ◌-ℤ◌, length, get_or}
use Rattle.finite.specs.Finite.{every, tabulate}
use Rattle.energy.specs.declared.HubKwh.{HubKwh}
use Rattle.units.specs.Units.{is_member, member_at, unit_count}
use Rattle.offer.specs.Offer.{last_quantity}
use Rattle.lines.specs.Refusals.{text_number}
use Rattle.sheet.specs.declared.Sheet.{Sheet}
use Rattle.sheet.specs.Ranges.{sheet_holds, unit_at, offer_at, monthly_of}
use Rattle.record.specs.declared.Record.{Record}
use Rattle.record_text.specs.Hour.{RecordTold}
use Rattle.record_text.specs.Hour.{read_record}
use Rattle.record.specs.Spans.{minutes_hold}
use Rattle.allocation.specs.Fill.{grains_at}
use Rattle.settlement.specs.declared.HourResult.{HourResult}
use Rattle.settlement.specs.Hour.{hour_result}
use Rattle.readings.specs.Readings.{readings_hold}
use Rattle.settlement.specs.Refusals.{proportions_hold}
use Rattle.postings.specs.declared.Posting.{Posting}

-- "Take, release, move give hour, unit (move: from, to) and hub kWh." Settle and restate give a text and a start in it, void an hour
pub data Call : Type 0 where
  take : (hour unit kwh : ℕ) → Call
  release : (hour unit kwh : ℕ) → Call
  move : (hour from to kwh : ℕ) → Call
  settle : (text : List ℕ) (start : ℕ) → Call
  restate : (text : List ℕ) (start : ℕ) → Call
  void : (hour : ℕ) → Call

-- "at most one record an hour (first none)"
pub data Kept : Type 0 where
  none : Kept
  kept : Record → Kept

-- hours and units by their own numbers
pub record Ledger : Type 0 where
  pub commitment : ℕ → ℕ → ℕ
  pub standing : ℕ → Kept
  pub postings : List Posting

-- "a commitment for each hour and unit (first 0), at most one record an hour (first none) and a sequence of postings (first empty)"
abbrev pub empty_ledger : Ledger
empty_ledger = record { commitment = λ h u. 0; standing = λ h. none; postings = [] }

-- what a call answers: the refusal's number or 0, its line for 1 to 4, how many postings were appended, and the text place
pub record Reply : Type 0 where
  pub number : ℕ
  pub line : ℕ
  pub posted : ℕ
  pub place : ℕ

pub record Outcome : Type 0 where
  pub reply : Reply
  pub ledger : Ledger

-- f with another value at one place
abbrev pub at : {A : Type 0} → (ℕ → A) → ℕ → A → ℕ → A
at f u x v = cond (eqb v u) x (f v)

-- "Otherwise take adds its kWh, release subtracts them, move does both."
abbrev pub with_held : (ℕ → ℕ → ℕ) → ℕ → ℕ → ℕ → ℕ → ℕ → ℕ
with_held f hour unit kwh = at f hour (at (f hour) unit kwh)

abbrev pub stands : Kept → Bool
stands none = false
stands (kept r) = true

-- an hour's commitments, by the units' places
abbrev pub hour_held : (ℕ → ℕ) → List HubKwh
hour_held f = tabulate 8 (λ k. record { 0 = f (k + 1) })

-- the amount of item i, from 0, of the unit at place k
abbrev pub amount_at : HourResult → ℕ → ℕ → ℤ
amount_at r k i = get_or (get_or r.amounts k (record { item = [] })).item i (pos 0)

-- "An hour's energies and amounts are those of the allocation and formulas for its record under the ledger's commitments, or 0 without a record."
-- Of the unit at place k
abbrev pub energy_for : Sheet → Kept → (ℕ → ℕ) → ℕ → ℕ
energy_for sheet none f k = 0
energy_for sheet (kept r) f k = grains_at (hour_result sheet r (hour_held f)).energy k

abbrev pub amount_for : Sheet → Kept → (ℕ → ℕ) → ℕ → ℕ → ℤ
amount_for sheet none f k i = pos 0
amount_for sheet (kept r) f k i = amount_at (hour_result sheet r (hour_held f)) k i

abbrev pub energy_of : Sheet → Ledger → ℕ → ℕ → ℕ
energy_of sheet l hour k = energy_for sheet (l.standing hour) (l.commitment hour) k

abbrev pub amount_in : Sheet → Ledger → ℕ → ℕ → ℕ → ℤ
amount_in sheet l hour k i = amount_for sheet (l.standing hour) (l.commitment hour) k i

-- the last offer quantity of the unit at place k in an hour
abbrev pub last_offer : Sheet → ℕ → ℕ → ℕ
last_offer sheet hour k = (last_quantity (offer_at (unit_at sheet.unit k) (hour - 1))).0

-- 12 on the ledger: "commitment above the last offer, or over 0 outside the plant; (..) count above the list or 100,000; stored amount beyond
-- ±10^11, posted beyond ±10^12; stored energy above 8 × 10^10". It has no marks
abbrev pub held_fits : Sheet → Ledger → ℕ → ℕ → Bool
held_fits sheet l h k =
    cond (member_at sheet.units k) (leb (l.commitment (h + 1) (k + 1)) (last_offer sheet (h + 1) k)) (eqb (l.commitment (h + 1) (k + 1)) 0)

unfoldable pub postings_fit : List Posting → Bool
postings_fit [] = true
postings_fit (p ∷ ps) = leb (nat_abs p.amount) 1000000000000 && postings_fit ps

abbrev pub ledger_fits : Sheet → ℕ → Ledger → Bool
ledger_fits sheet room l =
    every 24 (λ h. every 8 (held_fits sheet l h))
    && ((leb (length l.postings) room && leb (length l.postings) 100000)
    && ((every 24 (λ h. every 8 (λ k. every 5 (λ i. leb (nat_abs (amount_in sheet l (h + 1) k i)) 100000000000)))
    && postings_fit l.postings)
    && every 24 (λ h. every 8 (λ k. leb (energy_of sheet l (h + 1) k) 80000000000))))

-- a row of the table of refusals: its number and line, and whether its condition holds
pub record Condition : Type 0 where
  pub number : ℕ
  pub line : ℕ
  pub holds : Bool

abbrev pub when : ℕ → Bool → Condition
when number holds = record { number = number; line = 0; holds = holds }

-- "A call with a listed condition (..) gets the refusal of the first one checked, for 1 to 4 with its line, and changes nothing."
unfoldable pub first_of : List Condition → Ledger → (start : ℕ) → Outcome → Outcome
first_of [] l start accepted = accepted
first_of (c ∷ cs) l start accepted =
    cond c.holds (record { reply = record { number = c.number; line = c.line; posted = 0; place = start }; ledger = l })
    (first_of cs l start accepted)

-- "every call": 9 and 12
abbrev pub always : Sheet → ℕ → Ledger → List Condition
always sheet room l = when 9 (not (sheet_holds sheet)) ∷ when 12 (not (ledger_fits sheet room l)) ∷ []

abbrev pub bad_hour : ℕ → Bool
bad_hour hour = not (leb 1 hour && leb hour 24)

abbrev pub no_unit_of : Sheet → ℕ → Bool
no_unit_of sheet unit = not (is_member sheet.units unit)

-- 22: the target would exceed its last offer quantity
abbrev pub over_offer : Sheet → Ledger → ℕ → ℕ → ℕ → Bool
over_offer sheet l hour unit kwh = ltb (last_offer sheet hour (unit - 1)) (l.commitment hour unit + kwh)

-- 42: "fewer free places, up to 100,000 in all, than five a unit"
abbrev pub no_room : Sheet → ℕ → Ledger → Bool
no_room sheet room l = ltb (min room 100000 - length l.postings) (5 * unit_count sheet.units)

-- 1 to 4, by the reader
abbrev pub text_condition : Result ℕ TextRefusal → List Condition
text_condition (Ok place) = []
text_condition (Err r) = record { number = text_number r; line = r.line; holds = true } ∷ []

-- the rows of each call, in the table's order
abbrev pub take_conditions : Sheet → Ledger → ℕ → ℕ → ℕ → List Condition
take_conditions sheet l hour unit kwh =
    when 10 (bad_hour hour)
    ∷ when 11 (no_unit_of sheet unit)
    ∷ when 20 (stands (l.standing hour))
    ∷ when 21 (eqb kwh 0)
    ∷ when 22 (over_offer sheet l hour unit kwh)
    ∷ []

abbrev pub release_conditions : Sheet → Ledger → ℕ → ℕ → ℕ → List Condition
release_conditions sheet l hour unit kwh =
    when 10 (bad_hour hour)
    ∷ when 11 (no_unit_of sheet unit)
    ∷ when 20 (stands (l.standing hour))
    ∷ when 21 (eqb kwh 0)
    ∷ when 23 (ltb (l.commitment hour unit) kwh)
    ∷ []

abbrev pub move_conditions : Sheet → Ledger → ℕ → ℕ → ℕ → ℕ → List Condition
move_conditions sheet l hour from to kwh =
    when 10 (bad_hour hour)
    ∷ when 11 (no_unit_of sheet from || no_unit_of sheet to)
    ∷ when 24 (eqb from to)
    ∷ when 20 (stands (l.standing hour))
    ∷ when 21 (eqb kwh 0)
    ∷ when 23 (ltb (l.commitment hour from) kwh)
    ∷ when 22 (over_offer sheet l hour to kwh)
    ∷ []

-- settle has 40, restate 41 for it
abbrev pub record_conditions : Sheet → ℕ → Ledger → Record → Condition → List Condition
record_conditions sheet room l r c =
    when 31 (not (minutes_hold r sheet.units))
    ∷ c
    ∷ when 32 (not (readings_hold r sheet.units))
    ∷ when 33 (not (proportions_hold sheet r))
    ∷ when 42 (no_room sheet room l)
    ∷ []

abbrev pub void_conditions : Sheet → ℕ → Ledger → ℕ → List Condition
void_conditions sheet room l hour =
    when 10 (bad_hour hour) ∷ when 41 (not (stands (l.standing hour))) ∷ when 42 (no_room sheet room l) ∷ []

-- "Settle, restate and void then post each amount's new value less its old one, in the order above": unit then item ascending, five per unit
unfoldable pub posts : Sheet → ℕ → Kept → Kept → (ℕ → ℕ) → ℕ → List Posting
posts sheet hour old new f zero = []
posts sheet hour old new f (suc k) =
    cond (member_at sheet.units k)
    (posts sheet hour old new f k
    ++ tabulate 5 (λ i. record { hour = hour; unit = k + 1; item = i + 1; amount = amount_for sheet new f k i -ℤ amount_for sheet old f k i }))
    (posts sheet hour old new f k)

-- "Settle keeps its record, restate puts its own in the kept one's place, void drops it."
abbrev pub restated : Sheet → Ledger → ℕ → Kept → (place : ℕ) → Outcome
restated sheet l hour new place =
    let ps = posts sheet hour (l.standing hour) new (l.commitment hour) 8 in
    record {
      reply = record { number = 0; line = 0; posted = length ps; place = place };
      ledger = record { commitment = l.commitment; standing = at l.standing hour new; postings = l.postings ++ ps };
    }

abbrev pub changed : Ledger → (ℕ → ℕ → ℕ) → Outcome
changed l f =
    record {
      reply = record { number = 0; line = 0; posted = 0; place = 0 };
      ledger = record { commitment = f; standing = l.standing; postings = l.postings };
    }

-- the place of a reading, the start where it is refused
abbrev pub place_of : ℕ → Result ℕ TextRefusal → ℕ
place_of start (Ok place) = place
place_of start (Err r) = start

-- the record that a settle or a restate gives
abbrev pub given : Sheet → List ℕ → ℕ → RecordTold
given sheet text start = read_record text start sheet.units (monthly_of sheet)

-- the listed conditions of a call, in the order in which they are checked
unfoldable pub conditions_of : Sheet → ℕ → Ledger → Call → List Condition
conditions_of sheet room l (take hour unit kwh) = always sheet room l ++ take_conditions sheet l hour unit kwh
conditions_of sheet room l (release hour unit kwh) = always sheet room l ++ release_conditions sheet l hour unit kwh
conditions_of sheet room l (move hour from to kwh) = always sheet room l ++ move_conditions sheet l hour from to kwh
conditions_of sheet room l (settle text start) =
    let r = given sheet text start in
    always sheet room l
    ++ (text_condition r.answer ++ record_conditions sheet room l r.read (when 40 (stands (l.standing r.read.hour))))
conditions_of sheet room l (restate text start) =
    let r = given sheet text start in
    always sheet room l
    ++ (text_condition r.answer ++ record_conditions sheet room l r.read (when 41 (not (stands (l.standing r.read.hour)))))
conditions_of sheet room l (void hour) = always sheet room l ++ void_conditions sheet room l hour

-- the text place of a refused call: its start
abbrev pub start_of : Call → ℕ
start_of (take hour unit kwh) = 0
start_of (release hour unit kwh) = 0
start_of (move hour from to kwh) = 0
start_of (settle text start) = start
start_of (restate text start) = start
start_of (void hour) = 0

-- what an accepted call does
unfoldable pub effect_of : Sheet → Ledger → Call → Outcome
effect_of sheet l (take hour unit kwh) = changed l (with_held l.commitment hour unit (l.commitment hour unit + kwh))
effect_of sheet l (release hour unit kwh) = changed l (with_held l.commitment hour unit (l.commitment hour unit - kwh))
effect_of sheet l (move hour from to kwh) =
    changed l (with_held (with_held l.commitment hour from (l.commitment hour from - kwh)) hour to (l.commitment hour to + kwh))
effect_of sheet l (settle text start) =
    let r = given sheet text start in
    restated sheet l r.read.hour (kept r.read) (place_of start r.answer)
effect_of sheet l (restate text start) =
    let r = given sheet text start in
    restated sheet l r.read.hour (kept r.read) (place_of start r.answer)
effect_of sheet l (void hour) = restated sheet l hour none 0

-- one call on the ledger
unfoldable pub step : Sheet → ℕ → Ledger → Call → Outcome
step sheet room l c = first_of (conditions_of sheet room l c) l (start_of c) (effect_of sheet l c)

pub record Ran : Type 0 where
  pub replies : List Reply
  pub ledger : Ledger

-- "For every list of (..) calls (..) from an empty book and journal under one sheet": here from any ledger on
unfoldable pub run : Sheet → ℕ → Ledger → List Call → Ran
run sheet room l [] = record { replies = []; ledger = l }
run sheet room l (c ∷ cs) =
    let o = step sheet room l c in
    let r = run sheet room o.ledger cs in
    record { replies = o.reply ∷ r.replies; ledger = r.ledger }
