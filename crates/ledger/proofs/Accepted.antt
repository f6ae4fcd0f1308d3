-- What an accepted settle or restate tells: the sheet holds, the record was read, and every value of it is in its range.
-- Assumes nothing.
use Rattle.std.specs.Prelude.{Result, Ok, Err}
use Rattle.lines.specs.declared.TextRefusal.{TextRefusal}
use mathlib.Core.Path.{◌≡◌, refl}
use mathlib.Core.Bool.{true, false, ◌&&◌}
use mathlib.Core.List.{List, [], ◌∷◌, ◌++◌}
use Prim.Native.Nat.{ℕ, ◌≤◌, ◌<◌}
use native.Mathlib.Omega.{arith}
use borrow.Author.Tests.{leb-true, not-false, ne_eqb}
use lib.Dec.{leb}
use lib.ListN.{get_or}
use Rattle.finite.proofs.Tests.{and_left, and_right}
use Rattle.finite.proofs.Tables.{get_d_tabulate}
use Rattle.units.specs.Units.{member_at}
use Rattle.units.proofs.Laws.{place_lt}
use Rattle.sheet.specs.declared.Sheet.{Sheet}
use Rattle.sheet.specs.Ranges.{sheet_holds, monthly_of, unit_at}
use Rattle.sheet.proofs.InRange.{in_range_lem}
use Rattle.record.specs.InRange.{InRange}
use Rattle.record_text.proofs.Laws.{read_ranges}
use Rattle.ledger.specs.Ledger.{Ledger, Condition, stands, with_held, given, always, text_condition, take_conditions, release_conditions, move_conditions, void_conditions, bad_hour}
use Rattle.ledger.proofs.Told.{Clear, none, more}

pub clear_right : (xs ys : List Condition) → Clear (xs ++ ys) → Clear ys
clear_right [] ys c = c
clear_right (x ∷ xs) ys (more h c) = clear_right xs ys c

-- the first row of all: the sheet passes 9
pub sheet_told : (sheet : Sheet) (room : ℕ) (l : Ledger) (cs : List Condition) → Clear (always sheet room l ++ cs) → sheet_holds sheet ≡ true
sheet_told sheet room l cs (more a (more b c)) = not-false (sheet_holds sheet) a

pub hour_told : (hour : ℕ) → bad_hour hour ≡ false → (1 ≤ hour) × (hour ≤ 24)
hour_told hour e =
    let t = not-false (leb 1 hour && leb hour 24) e in
    (leb-true _ _ (and_left (leb 1 hour) (leb hour 24) t), leb-true _ _ (and_right (leb 1 hour) (leb hour 24) t))

read_told : (r : Result ℕ TextRefusal) (cs : List Condition) → Clear (text_condition r ++ cs) → (place : ℕ) × (r ≡ Ok place)
read_told (Ok place) cs c = (place, refl)
read_told (Err t) cs (more h c) = absurd (let z : ◌≡◌ {A = ℕ} 0 1 = cc in omega arith)

monthly_small : (sheet : Sheet) → sheet_holds sheet ≡ true → (k : ℕ) → member_at sheet.units k ≡ true
    → (get_or (monthly_of sheet) k (record { 0 = 0 })).0 ≤ 1000000
unfolding monthly_of
monthly_small sheet t k m =
    let l : k < 8 = place_lt sheet.units k m in
    rw (get_d_tabulate 8 (λ k. (unit_at sheet.unit k).monthly) k (record { 0 = 0 }) l) ((in_range_lem sheet t).unit k l m).monthly

-- a record that was read is in its ranges
pub given_range : (sheet : Sheet) → sheet_holds sheet ≡ true → (text : List ℕ) (start place : ℕ) → (given sheet text start).answer ≡ Ok place
    → InRange sheet.units (given sheet text start).read
given_range sheet t text start place e =
    read_ranges text start sheet.units (monthly_of sheet) place e (omega (arith, (in_range_lem sheet t).units_most)) (monthly_small sheet t)

-- a record that was taken
pub record Taken (sheet : Sheet) (text : List ℕ) (start : ℕ) : Type 0 where
  pub holds : sheet_holds sheet ≡ true
  pub place : ℕ
  pub read : (given sheet text start).answer ≡ Ok place
  pub range : InRange sheet.units (given sheet text start).read

pub record_told : (sheet : Sheet) (room : ℕ) (l : Ledger) (text : List ℕ) (start : ℕ) (cs : List Condition)
    → Clear (always sheet room l ++ (text_condition (given sheet text start).answer ++ cs)) → Taken sheet text start
record_told sheet room l text start cs clear =
    let t = sheet_told sheet room l _ clear in
    let p = read_told (given sheet text start).answer cs (clear_right (always sheet room l) _ clear) in
    record {
      holds = t;
      place = p.0;
      read = p.1;
      range = given_range sheet t text start p.0 p.1;
    }

-- what the other calls tell: their hour is open, or in range
pub apart : (f : ℕ → ℕ → ℕ) (hour unit x h : ℕ) → (h ≡ hour → ⊥) → with_held f hour unit x h ≡ f h
apart f hour unit x h d = simp (ne_eqb h hour d)

pub take_open : (sheet : Sheet) (room : ℕ) (l : Ledger) (hour unit kwh : ℕ) → Clear (always sheet room l ++ take_conditions sheet l hour unit kwh) → stands (l.standing hour) ≡ false
take_open sheet room l hour unit kwh (more a (more b (more c (more d (more e (more f (more g none))))))) = e

pub release_open : (sheet : Sheet) (room : ℕ) (l : Ledger) (hour unit kwh : ℕ) → Clear (always sheet room l ++ release_conditions sheet l hour unit kwh) → stands (l.standing hour) ≡ false
release_open sheet room l hour unit kwh (more a (more b (more c (more d (more e (more f (more g none))))))) = e

pub move_open : (sheet : Sheet) (room : ℕ) (l : Ledger) (hour from to kwh : ℕ) → Clear (always sheet room l ++ move_conditions sheet l hour from to kwh) → stands (l.standing hour) ≡ false
move_open sheet room l hour from to kwh (more a (more b (more c (more d (more e (more f (more g (more h (more i none))))))))) = f

pub void_hour : (sheet : Sheet) (room : ℕ) (l : Ledger) (hour : ℕ) → Clear (always sheet room l ++ void_conditions sheet room l hour) → (1 ≤ hour) × (hour ≤ 24)
void_hour sheet room l hour (more a (more b (more c d))) = hour_told hour c
