-- The test of refusal 9 and the facts it stands for: each part of the one is a field of the other.
-- Assumes nothing.
use mathlib.Core.Path.{◌≡◌, refl}
use mathlib.Core.Bool.{Bool, true, false, cond, ◌&&◌}
use Prim.Native.Nat.{ℕ, ◌≤◌, ◌<◌}
use native.Mathlib.Omega.{arith}
use borrow.Author.Tests.{leb-true, le-leb}
use lib.Dec.{leb}
use lib.ListN.{get_or}
use Rattle.finite.specs.Finite.{every}
use Rattle.finite.proofs.Tests.{and_left, and_right, and_both, every_at, every_all}
use Rattle.units.specs.Units.{member_at}
use Rattle.offer.specs.Offer.{offer_holds}
use Rattle.sheet.specs.declared.UnitSheet.{UnitSheet}
use Rattle.sheet.specs.declared.Sheet.{Sheet}
use Rattle.sheet.specs.Limits.{last_month, last_day, most_loss, most_own, most_ceiling, most_bar, most_cpf, most_units, most_kwh}
use Rattle.sheet.specs.Ranges.{between, unit_at, offer_at, unit_holds, place_holds, units_hold, date_holds, rates_hold, cpf_holds, sheet_holds}

pub record UnitInRange (u : UnitSheet) : Type 0 where
  pub own : u.own ≤ most_own
  pub nominal_least : 1 ≤ u.nominal.0
  pub nominal_most : u.nominal.0 ≤ most_kwh
  pub monthly : u.monthly.0 ≤ most_kwh
  pub offers : (h : ℕ) → h < 24 → offer_holds (offer_at u h) ≡ true

pub record InRange (s : Sheet) : Type 0 where
  pub month_least : 1 ≤ s.month
  pub month_most : s.month ≤ last_month
  pub day_least : 1 ≤ s.day
  pub day_most : s.day ≤ last_day s.month
  pub loss : s.loss ≤ most_loss
  pub ceiling : s.ceiling ≤ most_ceiling
  pub bar : s.bar ≤ most_bar
  pub cpf : (h : ℕ) → h < 24 → get_or s.cpf h 0 ≤ most_cpf
  pub units_least : 1 ≤ s.units
  pub units_most : s.units ≤ most_units
  pub unit : (k : ℕ) → k < 8 → member_at s.units k ≡ true → UnitInRange (unit_at s.unit k)

both : {a b : Bool} → a ≡ true → b ≡ true → (a && b) ≡ true
both {a} {b} = and_both a b

-- low ≤ n ≤ high
pub between_told : (low n high : ℕ) → between low n high ≡ true → (low ≤ n) × (n ≤ high)
between_told low n high t = (leb-true _ _ (and_left (leb low n) (leb n high) t), leb-true _ _ (and_right (leb low n) (leb n high) t))

pub unit_in_range : (u : UnitSheet) → unit_holds u ≡ true → UnitInRange u
unfolding unit_holds
unit_in_range u t =
    let own = leb u.own most_own in
    let nominal = between 1 u.nominal.0 most_kwh in
    let monthly = leb u.monthly.0 most_kwh in
    let offers = every 24 (λ h. offer_holds (offer_at u h)) in
    let first = and_left (own && nominal) (monthly && offers) t in
    let second = and_right (own && nominal) (monthly && offers) t in
    let range = between_told 1 u.nominal.0 most_kwh (and_right own nominal first) in
    record {
      own = leb-true _ _ (and_left own nominal first);
      nominal_least = range.0;
      nominal_most = range.1;
      monthly = leb-true _ _ (and_left monthly offers second);
      offers = every_at 24 (λ h. offer_holds (offer_at u h)) (and_right monthly offers second);
    }

pub unit_holds_back : (u : UnitSheet) → UnitInRange u → unit_holds u ≡ true
unfolding unit_holds
unit_holds_back u r =
    both (both (le-leb _ _ r.own) (both (le-leb _ _ r.nominal_least) (le-leb _ _ r.nominal_most)))
    (both (le-leb _ _ r.monthly) (every_all 24 (λ h. offer_holds (offer_at u h)) r.offers))

place_told : (units k : ℕ) (u : UnitSheet) → place_holds units k u ≡ true → member_at units k ≡ true → unit_holds u ≡ true
place_told units k u = by (member_at units k)
  where
    by : (t : Bool) → cond t (unit_holds u) true ≡ true → t ≡ true → unit_holds u ≡ true
    by true h e = h
    by false h e = absurd (let z : ◌≡◌ {A = ℕ} 0 1 = cc in omega arith)

place_back : (units k : ℕ) (u : UnitSheet) → (member_at units k ≡ true → unit_holds u ≡ true) → place_holds units k u ≡ true
place_back units k u = by (member_at units k)
  where
    by : (t : Bool) → (t ≡ true → unit_holds u ≡ true) → cond t (unit_holds u) true ≡ true
    by true h = h refl
    by false h = refl

pub in_range_lem : (s : Sheet) → sheet_holds s ≡ true → InRange s
unfolding sheet_holds
in_range_lem s t =
    let date = date_holds s.month s.day in
    let rates = rates_hold s.loss s.ceiling s.bar in
    let cpf = cpf_holds s.cpf in
    let units = between 1 s.units most_units in
    let unit = units_hold s.units s.unit in
    let first = and_left (date && rates) ((cpf && units) && unit) t in
    let second = and_right (date && rates) ((cpf && units) && unit) t in
    let dated = and_left date rates first in
    let rated = and_right date rates first in
    let loss = leb s.loss most_loss in
    let ceiling = leb s.ceiling most_ceiling in
    let bar = leb s.bar most_bar in
    let capped = and_left (loss && ceiling) bar rated in
    let month = between_told 1 s.month last_month (and_left (between 1 s.month last_month) (between 1 s.day (last_day s.month)) dated) in
    let day = between_told 1 s.day (last_day s.month) (and_right (between 1 s.month last_month) (between 1 s.day (last_day s.month)) dated) in
    let third = and_left (cpf && units) unit second in
    let plant = between_told 1 s.units most_units (and_right cpf units third) in
    record {
      month_least = month.0;
      month_most = month.1;
      day_least = day.0;
      day_most = day.1;
      loss = leb-true _ _ (and_left loss ceiling capped);
      ceiling = leb-true _ _ (and_right loss ceiling capped);
      bar = leb-true _ _ (and_right (loss && ceiling) bar rated);
      cpf = λ h l. leb-true _ _ (every_at 24 (λ h. leb (get_or s.cpf h 0) most_cpf) (and_left cpf units third) h l);
      units_least = plant.0;
      units_most = plant.1;
      unit = λ k l m.
          unit_in_range (unit_at s.unit k)
          (place_told s.units k (unit_at s.unit k)
          (every_at 8 (λ k. place_holds s.units k (unit_at s.unit k)) (and_right (cpf && units) unit second) k l) m);
    }

pub holds_back : (s : Sheet) → InRange s → sheet_holds s ≡ true
unfolding sheet_holds
holds_back s r =
    both
    (both
    (both (both (le-leb _ _ r.month_least) (le-leb _ _ r.month_most)) (both (le-leb _ _ r.day_least) (le-leb _ _ r.day_most)))
    (both (both (le-leb _ _ r.loss) (le-leb _ _ r.ceiling)) (le-leb _ _ r.bar)))
    (both
    (both (every_all 24 (λ h. leb (get_or s.cpf h 0) most_cpf) (λ h l. le-leb _ _ (r.cpf h l)))
    (both (le-leb _ _ r.units_least) (le-leb _ _ r.units_most)))
    (every_all 8 (λ k. place_holds s.units k (unit_at s.unit k))
    (λ k l. place_back s.units k (unit_at s.unit k) (λ m. unit_holds_back (unit_at s.unit k) (r.unit k l m)))))
