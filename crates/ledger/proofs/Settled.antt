-- What the settlement promises of an hour that stands, as the book uses it: nothing of its definition is opened.
-- Assumes nothing.
use mathlib.Core.Path.{◌≡◌, refl, ap, ◌∙◌}
use mathlib.Core.Bool.{Bool, true, false}
use mathlib.Core.List.{List}
use Prim.Native.Nat.{ℕ, zero, suc, ◌+◌, ◌<◌}
use lib.IntN.{pos}
use lib.ListN.{length, get_or, replicate}
use Rattle.finite.proofs.Tables.{get_d_tabulate}
use Rattle.energy.specs.declared.HubKwh.{HubKwh}
use Rattle.units.specs.Units.{member_at}
use Rattle.units.proofs.Laws.{place_lt}
use Rattle.sheet.specs.declared.Sheet.{Sheet}
use Rattle.record.specs.declared.Record.{Record}
use Rattle.settlement.specs.Ranges.{HourReady}
use Rattle.settlement.specs.declared.Amounts.{Amounts}
use Rattle.settlement.specs.Hour.{hour_result, past_amounts}
use Rattle.settlement.proofs.Laws.{energy_outside, amounts_none, amount_is}
use Rattle.ledger.specs.Ledger.{Kept, none, kept, hour_held, energy_for, amount_for}
use Rattle.ledger.proofs.Ready.{StandsFor}

pub hour_ready : (sheet : Sheet) (hour : ℕ) (r : Record) (f : ℕ → ℕ) → StandsFor sheet hour r f → HourReady sheet r (hour_held f)
hour_ready sheet hour r f s =
    record {
      read = record { sheet_holds = s.sheet_holds; in_range = s.range };
      committed = λ k m.
          rw (get_d_tabulate {A = HubKwh} 8 (λ k. record { 0 = f (k + 1) }) k (record { 0 = 0 }) (place_lt sheet.units k m)) (s.committed k m);
    }

zeros : (n i : ℕ) → get_or (replicate n (pos 0)) i (pos 0) ≡ pos 0
zeros zero i = refl
zeros (suc n) zero = refl
zeros (suc n) (suc i) = zeros n i

-- five items a unit
pub items_length : (sheet : Sheet) (r : Record) (commitment : List HubKwh) (k : ℕ) → k < 8 → length (get_or (hour_result sheet r commitment).amounts k past_amounts).item ≡ 5
items_length sheet r commitment k l = by (member_at sheet.units k) refl
  where
    by : (t : Bool) → member_at sheet.units k ≡ t → length (get_or (hour_result sheet r commitment).amounts k past_amounts).item ≡ 5
    by true m = ap length (amount_is sheet r commitment k m)
    by false m = ap (λ (x : Amounts). length x.item) (amounts_none sheet r commitment k l m)

-- a record that an hour keeps, or none
abbrev pub Kept-ready : Sheet → ℕ → Kept → (ℕ → ℕ) → Type 0
Kept-ready sheet hour s f = (r : Record) → s ≡ kept r → StandsFor sheet hour r f

module _ (sheet : Sheet) (hour : ℕ) (f : ℕ → ℕ) where
  pub outside_energy : (s : Kept) → Kept-ready sheet hour s f → (k : ℕ) → k < 8 → member_at sheet.units k ≡ false → energy_for sheet s f k ≡ 0
  outside_energy none ready k l m = refl
  outside_energy (kept r) ready k l m = energy_outside sheet r (hour_held f) (hour_ready sheet hour r f (ready r refl)) k l m

  pub outside_amount : (s : Kept) → Kept-ready sheet hour s f → (k i : ℕ) → k < 8 → member_at sheet.units k ≡ false → amount_for sheet s f k i ≡ pos 0
  outside_amount none ready k i l m = refl
  outside_amount (kept r) ready k i l m = ap (λ (x : Amounts). get_or x.item i (pos 0)) (amounts_none sheet r (hour_held f) k l m) ∙ zeros 5 i
