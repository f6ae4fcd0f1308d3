-- The calls counted and those from the place on are all; each call takes a byte at least.
-- Assumes nothing.
use Rattle.asks.proofs.Counted.{counted_end, counted_stop, counted_on}
use Rattle.std.specs.Prelude.{Some}
use Rattle.asks.specs.declared.Extent.{Extent}
use native.Mathlib.Omega.{arith}
use lib.ListN.{length}
use mathlib.Core.Path.{ap, sym, ◌∙◌}
use Prim.Native.Nat.{ℕ, ◌+◌, ◌-◌}
use Rattle.asks.proofs.calls_from.Goals as goal

pub loop-at-preserved : goal.loop-at-preserved
loop-at-preserved c =
    let l = c.loop-at in
    let on = counted_on c.args.text.now l.at l.calls l.invariant.few (omega arith) c.in-Ok.asking (sym c.in-Ok.ensures.value) in
    record { few = omega (arith, c.in-Ok.ensures.at_lt_next); calls_in_bounds = omega arith; all_counted = sym on ∙ l.invariant.all_counted }

pub returns-in-Err-clause-value : goal.returns-in-Err-clause-value
returns-in-Err-clause-value c =
    let l = c.loop-at in
    let stop = counted_stop c.args.text.now l.at l.calls l.invariant.few (omega arith) c.in-Err.fault (sym c.in-Err.ensures.value) in
    ap {B = Extent} (λ (k : ℕ). record { calls = l.calls; stop = Some (record { fault = c.in-Err.fault; line = k + 1 }) }) c.line_ends.ensures.value
    ∙ (sym stop ∙ l.invariant.all_counted)

pub returns-clause-value : goal.returns-clause-value
returns-clause-value c =
    let l = c.loop-at in
    sym (counted_end c.args.text.now l.at l.calls (length c.args.text.now - l.calls) (omega arith)) ∙ l.invariant.all_counted
