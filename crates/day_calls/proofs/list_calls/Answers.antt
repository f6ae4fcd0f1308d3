-- The calls stored so far and those from the step on are all of the day's: the laws are in proofs/Listing.antt. Each call has six bytes, so no more turns
-- come than bytes.
-- Assumes nothing.
use Rattle.std.proofs.Common.{rules}
use mathlib.Core.Path.{◌≡◌, refl, ◌∙◌, ap, subst, sym}
use mathlib.Core.List.{List}
use Prim.Native.Nat.{ℕ, ◌+◌, ◌/◌, ◌<◌}
use native.Mathlib.Omega.{arith}
use lib.ListN.{length}
use Rattle.std.specs.Prelude.{Ok, Some}
use Rattle.ledger.specs.Requests.{call_numbers}
use Rattle.day_calls.specs.DayCalls.{Stepped}
use Rattle.day_calls.proofs.Listing.{Listing, stored_length, listing_first, listing_next}
use Rattle.day_calls.proofs.list_calls.Goals as goal

pub loop-step-init : goal.loop-step-init
loop-step-init c =
    let a = c.args in
    (refl, omega arith, listing_first a.text.now a.from a.calls.now _ c.step_at-step.ensures)

pub loop-step-preserved : goal.loop-step-preserved
loop-step-preserved c =
    let g = c.args in
    let l = c.loop-step in
    let call = c.in-Ok-Some.call in
    let e : ◌≡◌ {A = Stepped} l.step (Ok (Some call)) = search rules in
    let t = g.text.now in
    let room : l.n < length l.calls / call_numbers = omega (arith, c.if-room-n.false, l.invariant.0) in
    let stored = c.store_call.ensures in (
      ap length stored ∙ (stored_length l.calls l.n call.asked room ∙ l.invariant.0),
      omega (arith, c.if-room-n.false),
      subst (λ (x : List ℕ). Listing t g.from x (l.n + 1) c.step_at-step-in-Ok-Some.result) (sym stored)
          (listing_next t g.from l.calls l.n l.step call l.invariant.2 e room _ c.step_at-step-in-Ok-Some.ensures),
    )
