-- What is left of the hour is 60 less the minutes of the spans passed; a span that has more than what is left makes them more than 60.
-- Assumes nothing.
use Rattle.std.proofs.Common.{◌≡◌, sym, ◌∙◌, ap, ℕ, ◌+◌, ◌<◌, get_or, take, arith, eqb}
use Rattle.std.proofs.lemmas.List.{length-take, get_or-take}
use native.Mathlib.Decide.{ℕ_discrete}
use borrow.Author.Tests.{eq-eqb, ne_eqb}
use Rattle.finite.specs.Finite.{sum}
use Rattle.finite.proofs.Sums.{sum_next, sum_has}
use Rattle.record.specs.declared.Span.{Span}
use Rattle.record.specs.Spans.{span_at, span_count, minutes_of}
use Rattle.record.specs.Empty.{no_span}
use Rattle.record.proofs.unit_minutes.Goals as goal

-- nothing is left where the spans have all of the hour
all_told : (left told : ℕ) → left + told ≡ 60 → eqb left 0 ≡ eqb told 60
all_told left told e = by (ℕ_discrete left 0)
  where
    by : Dec (left ≡ 0) → eqb left 0 ≡ eqb told 60
    by (yes z) = eq-eqb left 0 z ∙ sym (eq-eqb told 60 (omega arith))
    by (no some) = ne_eqb left 0 some ∙ sym (ne_eqb told 60 (λ h. some (omega arith)))

pub loop-span-init : goal.loop-span-init
unfolding sum
loop-span-init c = omega arith

pub returns-in_default : goal.returns-in_default
unfolding minutes_of
returns-in_default c =
    let u = c.args.u.now in
    let i = c.loop-span.span-index in
    let long : i < c.min-n.result = omega (arith, length-take c.min-n.result u.span) in
    let its : get_or (take c.min-n.result u.span) i no_span ≡ span_at u i = get_or-take c.min-n.result u.span i no_span long in
    let its' = ap (λ (s : Span). s.minutes) its in
    let some = sum_has (span_count u) i (λ i. (span_at u i).minutes) (omega arith) in
    let more = c.in_default.ensures in
    sym (ne_eqb (minutes_of u) 60 (λ e. omega (arith, more)))

pub loop-span-preserved : goal.loop-span-preserved
loop-span-preserved c =
    let u = c.args.u.now in
    let i = c.loop-span.span-index in
    let long : i < c.min-n.result = omega (arith, length-take c.min-n.result u.span) in
    let its : get_or (take c.min-n.result u.span) i no_span ≡ span_at u i = get_or-take c.min-n.result u.span i no_span long in
    let its' = ap (λ (s : Span). s.minutes) its in
    let next = sum_next i (λ i. (span_at u i).minutes) in
    omega (arith, c.in-Some.ensures)

pub returns : goal.returns
unfolding minutes_of
returns c =
    let u = c.args.u.now in
    let all : c.loop-span.span-index ≡ span_count u = omega (arith, length-take c.min-n.result u.span) in
    all_told c.loop-span.left (minutes_of u) (rw (sym all) c.loop-span.invariant)
