-- Document 01's numbers: of each refusal, and of what a call answers.
use Rattle.std.specs.Prelude.{ℕ, Ok, Err}
use Rattle.lines.specs.Refusals.{text_number}
use Rattle.ledger.specs.declared.Refusal.{Refusal}
use Rattle.ledger.specs.declared.Refusal.TheVariants.{Text, SheetRange, HourRange, UnitUnknown, BookRange, HourSettled, NoAmount, OverOffer, HeldLess, SameUnit, Minutes, Readings, Proportions, HourStands, HourOpen, NoPlaces}
use Rattle.ledger.specs.Answers.{Answer}
use Rattle.ledger.specs.declared.Effect.TheVariants.{Committed, Posted}
use Rattle.ledger.specs.Ledger.{Reply}

-- 01, the table of refusals
abbrev pub refusal_number : Refusal → ℕ
refusal_number (Text t) = text_number t
refusal_number SheetRange = 9
refusal_number HourRange = 10
refusal_number UnitUnknown = 11
refusal_number BookRange = 12
refusal_number HourSettled = 20
refusal_number NoAmount = 21
refusal_number OverOffer = 22
refusal_number HeldLess = 23
refusal_number SameUnit = 24
refusal_number Minutes = 31
refusal_number Readings = 32
refusal_number Proportions = 33
refusal_number HourStands = 40
refusal_number HourOpen = 41
refusal_number NoPlaces = 42

-- "for 1 to 4 the line"
abbrev pub refusal_line : Refusal → ℕ
refusal_line (Text t) = t.line
refusal_line SheetRange = 0
refusal_line HourRange = 0
refusal_line UnitUnknown = 0
refusal_line BookRange = 0
refusal_line HourSettled = 0
refusal_line NoAmount = 0
refusal_line OverOffer = 0
refusal_line HeldLess = 0
refusal_line SameUnit = 0
refusal_line Minutes = 0
refusal_line Readings = 0
refusal_line Proportions = 0
refusal_line HourStands = 0
refusal_line HourOpen = 0
refusal_line NoPlaces = 0

-- an answer with its text place, in numbers: the refusal's number or 0, its line, the postings appended, the place
abbrev pub reply_of : Answer → (place : ℕ) → Reply
reply_of (Ok Committed) place = record { number = 0; line = 0; posted = 0; place = place }
reply_of (Ok (Posted n)) place = record { number = 0; line = 0; posted = n; place = place }
reply_of (Err r) place = record { number = refusal_number r; line = refusal_line r; posted = 0; place = place }

abbrev pub number_of : Answer → ℕ
number_of a = (reply_of a 0).number

abbrev pub line_of : Answer → ℕ
line_of a = (reply_of a 0).line

abbrev pub posted_of : Answer → ℕ
posted_of a = (reply_of a 0).posted
