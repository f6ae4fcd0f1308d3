use Rattle.std.proofs.Common.{◌≡◌, ◌+◌}
use Rattle.finite.specs.Finite.{sum}
use Rattle.record.specs.Spans.{span_at}
use Rattle.record.proofs.unit_minutes.Given as goal

abbrev pub invariant-loop-span : goal.invariant-loop-span
invariant-loop-span l = l.left + sum l.span-index (λ i. (span_at l.fn.u i).minutes) ≡ 60
