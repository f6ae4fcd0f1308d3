-- The tests of the commitments as numbers are those of the commitments: each number is its commitment's.
-- Assumes nothing.
use mathlib.Core.Path.{◌≡◌, refl, ap, ◌∙◌}
use mathlib.Core.Bool.{Bool, ◌&&◌}
use mathlib.Core.List.{List}
use Prim.Native.Nat.{ℕ, zero, suc, ◌<◌}
use native.Mathlib.Omega.{arith}
use lib.Dec.{leb}
use lib.ListN.{get_or}
use Rattle.finite.specs.Finite.{every}
use Rattle.finite.proofs.Tables.{get_d_tabulate}
use Rattle.energy.specs.declared.HubKwh.{HubKwh}
use Rattle.units.specs.Units.{member_at}
use Rattle.sheet.specs.declared.UnitSheet.{UnitSheet}
use Rattle.sheet.specs.Ranges.{unit_at, offer_at}
use Rattle.state.specs.Sizes.{hours, places, entries, entry_of}
use Rattle.state.specs.Book.{no_kwh}
use Rattle.state.specs.Ranges.{limit_of, place_holds, commitments_hold}
use Rattle.state.specs.Numbers.{kwh_of, kept_to}

every_same : (n : ℕ) (f g : ℕ → Bool) → ((i : ℕ) → i < n → f i ≡ g i) → every n f ≡ every n g
unfolding every
every_same zero f g h = refl
every_same (suc n) f g h =
    ap (λ (t : Bool). t && f n) (every_same n f g (λ i l. h i (omega arith)))
    ∙ ap (λ (t : Bool). every n g && t) (h n (omega arith))

kwh_at : (l : List HubKwh) (j : ℕ) → j < entries → get_or (kwh_of l) j 0 ≡ (get_or l j no_kwh).0
unfolding kwh_of
kwh_at l j b = get_d_tabulate entries (λ j. (get_or l j no_kwh).0) j 0 b

kept_place : (member : Bool) (u : UnitSheet) (l : List HubKwh) (k : ℕ) → k < places
    → kept_to member u (kwh_of l) k ≡ place_holds member u l k
kept_place member u l k b =
    every_same hours (λ h. leb (get_or (kwh_of l) (entry_of h k) 0) (limit_of member (offer_at u h)).0)
    (λ h. leb (get_or l (entry_of h k) no_kwh).0 (limit_of member (offer_at u h)).0)
    (λ h a. ap (λ (n : ℕ). leb n (limit_of member (offer_at u h)).0) (kwh_at l (entry_of h k) (omega arith)))

pub kept_commitments : (units : ℕ) (unit : List UnitSheet) (l : List HubKwh)
    → every places (λ k. kept_to (member_at units k) (unit_at unit k) (kwh_of l) k) ≡ commitments_hold units unit l
kept_commitments units unit l =
    every_same places (λ k. kept_to (member_at units k) (unit_at unit k) (kwh_of l) k)
    (λ k. place_holds (member_at units k) (unit_at unit k) l k)
    (λ k b. kept_place (member_at units k) (unit_at unit k) l k b)
