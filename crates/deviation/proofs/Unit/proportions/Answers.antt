-- The spans passed have added to the sums of the kinds that they count as.
-- Assumes nothing.
use mathlib.Core.Path.{◌≡◌, sym, ap, ◌∙◌, subst}
use mathlib.Core.List.{List}
use Prim.Native.Nat.{ℕ, ◌+◌, ◌-◌, ◌<◌, ◌≤◌, min}
use native.Mathlib.Omega.{arith}
use lib.ListN.{get_or, set, take, length}
use Rattle.std.proofs.lemmas.List.{length-take, get_or-take}
use Rattle.record.specs.declared.Span.{Span}
use Rattle.record.specs.declared.UnitRecord.{UnitRecord}
use Rattle.record.specs.Empty.{no_span}
use Rattle.record.specs.Spans.{counted_kind, span_at}
use Rattle.record.specs.InRange.{UnitInRange}
use Rattle.record.proofs.Counted.{counted_in as kind-in}
use Rattle.formulas.specs.Items.{first_kind, kinds}
use Rattle.deviation.specs.Deviation.{short_minutes}
use Rattle.deviation.proofs.Weights.{short_most, part_most, Counted, counted_none, counted_in, counted_out, counted_all}
use Rattle.deviation.proofs.Unit.proportions.Goals.{then-kind-ge2, else-kind-ge2}
use Rattle.deviation.proofs.Unit.proportions.Goals as goal

-- a span that the loop comes to is the unit's of that place
record Reached (u : UnitRecord) (i : ℕ) (s : Span) : Type 0 where
  below : i < u.spans
  is : s ≡ span_at u i

module _ (u : UnitRecord) (i : ℕ) where
  reached : i < length (take u.spans u.span) → Reached u i (get_or (take u.spans u.span) i no_span)
  reached l =
      let b : i < u.spans = omega (arith, length-take u.spans u.span) in record { below = b; is = get_or-take u.spans u.span i no_span b }

  -- the kind that it counts as, from kind 2 on, has a place
  place : (kind : ℕ) → UnitInRange u → i < length (take u.spans u.span) → kind ≡ counted_kind (get_or (take u.spans u.span) i no_span) → first_kind ≤ kind
      → kind - first_kind < kinds
  place kind h l e low =
      let r = reached l in
      let k = e ∙ ap counted_kind r.is in
      omega (arith, kind-in (span_at u i) (h.span i r.below))

pub loop-span-init : goal.loop-span-init
loop-span-init c = counted_none c.args.self.now.own c.args.self.now.hour.now

pub offset_bounds-sums-kind : goal.offset_bounds-sums-kind
offset_bounds-sums-kind c = let p = place c.args.self.now.hour.now c.loop-span.span-index _ c.args.self.now.in_range c.loop-span-test.true c.counted_kind-kind.ensures c.if-kind-ge2.true in omega arith

pub bounds-sums-kind : goal.bounds-sums-kind
bounds-sums-kind c = let p = place c.args.self.now.hour.now c.loop-span.span-index _ c.args.self.now.in_range c.loop-span-test.true c.counted_kind-kind.ensures c.if-kind-ge2.true in omega arith

pub bounds-sums-kind-then-kind-ge2 : goal.bounds-sums-kind-then-kind-ge2
bounds-sums-kind-then-kind-ge2 c = let p = place c.args.self.now.hour.now c.loop-span.span-index _ c.args.self.now.in_range c.loop-span-test.true c.counted_kind-kind.ensures c.if-kind-ge2.true in omega arith

pub overflow_add-sums : goal.overflow_add-sums
overflow_add-sums c =
    let own = c.args.self.now.own in
    let u = c.args.self.now.hour.now in
    let i = c.loop-span.span-index in
    let k = c.counted_kind-kind.result - first_kind in
    let r = reached u i c.loop-span-test.true in
    omega (
      arith,
      c.short_minutes.ensures ∙ ap (short_minutes own u.test) r.is,
      short_most own u.test (span_at u i) c.args.self.now.in_range.test (c.args.self.now.in_range.span i r.below).minutes_most,
      c.loop-span.invariant.kind k (place c.args.self.now.hour.now c.loop-span.span-index _ c.args.self.now.in_range c.loop-span-test.true c.counted_kind-kind.ensures c.if-kind-ge2.true),
      part_most own u c.args.self.now.in_range (first_kind + k) i (omega (arith, r.below)),
    )

pub loop-span-preserved : goal.loop-span-preserved
loop-span-preserved c =
    let own = c.args.self.now.own in
    let u = c.args.self.now.hour.now in
    let i = c.loop-span.span-index in
    let sums = c.loop-span.sums in
    let kind = c.counted_kind-kind.result in
    let r = reached u i c.loop-span-test.true in
    let e = c.counted_kind-kind.ensures ∙ ap counted_kind r.is in
    elim c.if-kind-ge2.branch [
      | then-kind-ge2 w ↦ subst (λ (x : List ℕ). Counted own u (i + 1) x)
          (sym (w.sums-is ∙ ap (λ (n : ℕ). set sums (kind - 2) (get_or sums (kind - 2) 0 + n)) (w.short_minutes.ensures ∙ ap (short_minutes own u.test) r.is)))
          (counted_in own u i sums c.loop-span.invariant (kind - 2) (place u i _ c.args.self.now.in_range c.loop-span-test.true c.counted_kind-kind.ensures w.if-kind-ge2.true) (sym e ∙ omega (arith, w.if-kind-ge2.true)))
      | else-kind-ge2 w ↦ subst (λ (x : List ℕ). Counted own u (i + 1) x) (sym w.sums-is) (counted_out own u i sums c.loop-span.invariant (omega (arith, e, w.if-kind-ge2.false)))
    ]

pub returns : goal.returns
returns c =
    let u = c.args.self.now.hour.now in
    let e : c.loop-span.span-index ≡ min u.spans 6 = omega (arith, c.args.self.now.in_range.spans_most, length-take u.spans u.span) in
    counted_all c.args.self.now.own u c.args.self.now.in_range c.loop-span.span-index c.loop-span.sums e c.loop-span.invariant
