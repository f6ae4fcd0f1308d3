use mathlib.Core.Path.{◌≡◌}
use Prim.Native.Nat.{◌-◌, ◌/◌, ◌≤◌}
use lib.ListN.{length}
use Rattle.ledger.specs.Requests.{call_numbers}
use Rattle.day_calls.proofs.Listing.{Listing}
use Rattle.day_calls.proofs.list_calls.Given as goal

abbrev pub invariant-loop-step : goal.invariant-loop-step
invariant-loop-step l = (length l.calls ≡ length l.initial.calls) × (l.n ≤ length l.initial.calls / call_numbers) × Listing l.text l.from l.calls l.n l.step

abbrev pub decreases-loop-step : goal.decreases-loop-step
decreases-loop-step l = length l.text - l.n
