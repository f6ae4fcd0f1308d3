-- The steps before the one found end at or before the grain, and the one found ends past it, if it is not the last.
-- Assumes nothing.
use Prim.Native.Nat.{ℕ, ◌-◌, ◌<◌, ◌≤◌}
use native.Mathlib.Omega.{arith}
use Rattle.std.proofs.Common.{rules, tests}
use Rattle.std.specs.Option.{MatchOption, unwrap_or}
use Rattle.std.specs.declared.option.Option.{Option}
use Rattle.std.specs.declared.option.Option.TheVariants.{None as none, Some as at}
use Rattle.std.proofs.lemmas.Iterator.{first_from_Range, serves_from_Range}
use Rattle.energy.specs.Energy.{grains_of}
use Rattle.energy.proofs.Order.{lt_true, lt_false}
use Rattle.offer.specs.declared.Offer.{Offer}
use Rattle.offer.specs.Offer.{quantity_at}
use Rattle.offer.specs.Modified.{OnStep}
use Rattle.offer.proofs.Steps.{holds}
use Rattle.offer.proofs.Blocks.{passed_all}
use Rattle.offer.proofs.ModifiedOffer.step_at.Goals as goal

module _ (o : Offer) (i : ℕ) where
  -- whether a step ends past the grain
  abbrev Past : ℕ → Type 0
  Past s = i < (grains_of (quantity_at o s)).0

  abbrev NotPast : ℕ → Type 0
  NotPast s = (grains_of (quantity_at o s)).0 ≤ i

  found : (r : Option ℕ) → MatchOption r ((k : ℕ) → 0 ≤ k → k < o.steps - 1 → NotPast k) (λ s. (0 ≤ s) × (s < o.steps - 1) × Past s × ((k : ℕ) → 0 ≤ k → k < s → NotPast k)) → OnStep o i (unwrap_or r (o.steps - 1))
  found none h =
      record {
        known = omega arith;
        rest = passed_all o i (o.steps - 1) (omega arith) (λ t l. h t (omega arith) l);
        ends = λ l. absurd (omega arith);
      }
  found (at s) h =
      record {
        known = omega (arith, h.1);
        rest = passed_all o i s (omega (arith, h.1)) (λ t l. h.3 t (omega arith) l);
        ends = λ l. h.2;
      }

pub find-requires-clause-callable : goal.find-requires-clause-callable
find-requires-clause-callable c =
    let o = c.args.self.now.offer.now in
    let h = holds o c.args.self.now.holds.0 in
    serves_from_Range (λ x q k. search (rules, tests))
    (λ x low high.
    let m : x < 10 = omega (arith, h.most) in
    let q : (quantity_at o x).0 ≤ 1000000000 = omega (arith, h.quantity_most x (omega arith)) in
    search (rules, m, q))

pub returns : goal.returns
returns c =
    let o = c.args.self.now.offer.now in
    let i = c.args.i.0 in
    let r =
    first_from_Range _ _ _ _ (Past o i) (NotPast o i) c.find.ensures.ran
    (λ x q k. grind (arith, tests, lt_true))
    (λ x q k. (search rules, grind (arith, tests, lt_false))) in
    rw c.unwrap_or.ensures (found o i _ r)
