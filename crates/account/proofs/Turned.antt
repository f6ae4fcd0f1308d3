-- The turns from a day on are those from the day after its call; where no call is due the turns have ended.
-- Assumes nothing.
use Rattle.std.specs.Prelude.{Ok, Err, Some, None}
use mathlib.Core.Path.{◌≡◌, refl, ap, ◌∙◌}
use mathlib.Core.List.{List}
use Prim.Native.Nat.{ℕ, zero, suc, ◌-◌, ◌<◌}
use native.Mathlib.Omega.{arith}
use Rattle.sheet.specs.declared.Sheet.{Sheet}
use Rattle.day_calls.specs.declared.Step.{Step}
use Rattle.account.specs.Day.{Pending, Running, turned, ran_by, ran_to}

-- no call is due
abbrev pub NoneDue : Pending → Type 0
NoneDue p = (x : Step) → p ≡ Ok (Some x) → ⊥

module _ (sheet : Sheet) (text : List ℕ) where
  pub ran_next : (r : Running) (x : Step) (k : ℕ) → r.day.due ≡ Ok (Some x) → ran_to sheet text (suc k) r ≡ ran_to sheet text k (turned sheet text r x)
  unfolding ran_to
  ran_next r x k e = ap (ran_by sheet text (ran_to sheet text k) r) e

  stays : (further : Running → Running) (r : Running) (p : Pending) → NoneDue p → ran_by sheet text further r p ≡ r
  stays further r (Ok (Some x)) none = absurd (none x refl)
  stays further r (Ok None) none = refl
  stays further r (Err e) none = refl

  -- at the end no turn is left
  pub ran_end : (k : ℕ) (r : Running) → NoneDue r.day.due → ran_to sheet text k r ≡ r
  unfolding ran_to
  ran_end zero r none = refl
  ran_end (suc k) r none = stays (ran_to sheet text k) r r.day.due none

  -- with the call that is due one fewer is left to come; where none is due the turns have ended
  pub left_by : (left : ℕ) (r : Running)
      → ((x : Step) → r.day.due ≡ Ok (Some x) → 0 < left → ran_to sheet text left r ≡ ran_to sheet text (left - 1) (turned sheet text r x))
      × (NoneDue r.day.due → ran_to sheet text left r ≡ r)
  left_by left r = (
    λ x is some. let e : left ≡ suc (left - 1) = omega arith in ap (λ (k : ℕ). ran_to sheet text k r) e ∙ ran_next r x (left - 1) is,
    ran_end left r,
  )
