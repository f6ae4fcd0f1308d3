-- A take, release or move as one change of two commitments: the unit `from` gives `out` and the unit `to` gets `into`. In a take and in a release
-- both are the same unit, and one of the two amounts is 0. `moves` says that it is a move, whose units must differ.
use Rattle.std.specs.Prelude.{ℕ, ◌+◌, ◌-◌, Bool, true, false, cond, ◌&&◌, ◌||◌, List, [], ◌∷◌, ltb, eqb}
use Rattle.state.specs.Sizes.{entry_of}
use Rattle.ledger.specs.declared.Refusal.TheVariants.{HourRange, UnitUnknown, SameUnit, HourSettled, NoAmount, HeldLess, OverOffer}
use Rattle.ledger.specs.Calls.{Row, row, bad_hour, unknown_units}
use Rattle.decisions.specs.declared.CommitmentKind.{CommitmentKind}
use Rattle.decisions.specs.declared.CommitmentKind.TheVariants.{Take, Release, Move}
use Rattle.decisions.specs.declared.CommitmentCall.{CommitmentCall}
use Rattle.decisions.specs.declared.CommitmentChange.{CommitmentChange}

-- where an hour, and an hour's unit, stand in the book; 0 for one that is none
unfoldable pub hour_index : ℕ → ℕ
hour_index hour = cond (bad_hour hour) 0 (hour - 1)

unfoldable pub entry_index : (hour unit : ℕ) → ℕ
entry_index hour unit = cond (bad_hour hour || (ltb unit 1 || ltb 8 unit)) 0 (entry_of (hour - 1) (unit - 1))

-- the three calls
abbrev pub take_change : (hour unit kwh : ℕ) → CommitmentChange
take_change hour unit kwh = record { hour = hour; from = unit; to = unit; out = record { 0 = 0 }; into = record { 0 = kwh }; moves = false }

abbrev pub release_change : (hour unit kwh : ℕ) → CommitmentChange
release_change hour unit kwh = record { hour = hour; from = unit; to = unit; out = record { 0 = kwh }; into = record { 0 = 0 }; moves = false }

abbrev pub move_change : (hour from to kwh : ℕ) → CommitmentChange
move_change hour from to kwh = record { hour = hour; from = from; to = to; out = record { 0 = kwh }; into = record { 0 = kwh }; moves = true }

abbrev pub change_for : CommitmentKind → CommitmentCall → CommitmentChange
change_for Take c = take_change c.hour c.unit c.kwh
change_for Release c = release_change c.hour c.unit c.kwh
change_for Move c = move_change c.hour c.unit c.to c.kwh

unfoldable pub change_of : CommitmentCall → CommitmentChange
change_of c = change_for c.kind c

-- 10 11 24 20 21 23 22, by whether the hour is settled, the commitments of the unit that gives and of the one that gets, and the latter's last
-- offer quantity. A take gives nothing, so that 23 cannot hold of it; a release gets nothing, so that 22 cannot hold where 12 does not
abbrev pub change_tests : (units : ℕ) → CommitmentChange → (settled : Bool) → (source held last : ℕ) → List Row
change_tests units c settled source held last =
    row HourRange (bad_hour c.hour)
    ∷ row UnitUnknown (unknown_units units c.from c.to)
    ∷ row SameUnit (c.moves && eqb c.from c.to)
    ∷ row HourSettled settled
    ∷ row NoAmount (eqb c.out.0 0 && eqb c.into.0 0)
    ∷ row HeldLess (ltb source c.out.0)
    ∷ row OverOffer (ltb last (held + c.into.0))
    ∷ []
