-- The figures of the examples keep their ranges: two steps by the inequalities between them, spans and units one by one.
-- Assumes nothing.
use mathlib.Core.Path.{◌≡◌}
use mathlib.Core.Bool.{true}
use mathlib.Core.List.{List, [], ◌∷◌}
use Prim.Native.Nat.{ℕ, zero, suc, ◌≤◌, ◌<◌}
use native.Mathlib.Omega.{arith}
use lib.ListN.{length, get_or, set, replicate, get_or-replicate}
use lib.Seq.{get_or-set_other}
use borrow.Author.Tests.{le-leb, lt-ltb}
use Rattle.finite.specs.Finite.{every, tabulate}
use Rattle.finite.proofs.Tables.{get_d_tabulate}
use Rattle.energy.specs.declared.NetKwh.{NetKwh}
use Rattle.energy.specs.declared.HubKwh.{HubKwh}
use Rattle.units.specs.Units.{member_at}
use Rattle.units.proofs.Laws.{place_lt}
use Rattle.offer.specs.declared.Step.{Step}
use Rattle.offer.specs.declared.Offer.{Offer}
use Rattle.offer.specs.Offer.{no_step, steps_allowed, in_range, in_order, offer_holds}
use Rattle.record.specs.declared.Span.{Span}
use Rattle.record.specs.Empty.{no_span}
use Rattle.record.specs.InRange.{SpanInRange}
use Rattle.allocation.specs.declared.PlantUnit.{PlantUnit}
use Rattle.allocation.specs.Allocation.{past_unit, UnitHolds}

abbrev pub hub : ℕ → HubKwh
hub n = record { 0 = n }

abbrev pub net_kwh : ℕ → NetKwh
net_kwh n = record { 0 = n }

abbrev pub two_steps : Step → Step → Offer
two_steps a b = record { steps = 2; step = set (set (replicate 10 no_step) 0 a) 1 b }

pub two_steps_hold : (q p q' p' : ℕ) (a b : Step) → a ≡ record { quantity = hub q; price = p } → b ≡ record { quantity = hub q'; price = p' }
    → 1 ≤ q → q < q' → q' ≤ 1000000 → p ≤ p' → p' ≤ 10000000 → offer_holds (two_steps a b) ≡ true
unfolding offer_holds steps_allowed every in_range in_order
two_steps_hold q p q' p' a b first second least rising most order dearest =
    simp (
      first,
      second,
      le-leb 1 q least,
      le-leb q 1000000 (omega arith),
      le-leb p 10000000 (omega arith),
      le-leb 1 q' (omega arith),
      le-leb q' 1000000 most,
      le-leb p' 10000000 dearest,
      lt-ltb q q' rising,
      le-leb p p' order,
    )

-- two spans, or three, each in its range, are so by index
module _ (a b : Span) (a-in : SpanInRange a) (b-in : SpanInRange b) where
  pub two_spans : (i : ℕ) → i < 2 → SpanInRange (get_or (a ∷ b ∷ []) i no_span)
  two_spans zero l = a-in
  two_spans (suc zero) l = b-in
  two_spans (suc (suc i)) l = absurd (omega arith)

  pub three_spans : (c : Span) → SpanInRange c → (i : ℕ) → i < 3 → SpanInRange (get_or (a ∷ b ∷ c ∷ []) i no_span)
  three_spans c c-in zero l = a-in
  three_spans c c-in (suc zero) l = b-in
  three_spans c c-in (suc (suc zero)) l = c-in
  three_spans c c-in (suc (suc (suc i))) l = absurd (omega arith)

-- the spans of an array of six, which are those given as far as these go, are in range
pub spans_in : (given spans : List Span) → spans ≡ tabulate 6 (λ (i : ℕ). get_or given i no_span) → length given ≤ 6
    → ((i : ℕ) → i < length given → SpanInRange (get_or given i no_span)) → (i : ℕ) → i < length given → SpanInRange (get_or spans i no_span)
spans_in given spans made few each i l =
    rw (made, get_d_tabulate 6 (λ (i : ℕ). get_or given i no_span) i no_span (omega (arith, few, l))) (each i l)

-- a unit of example 12
pub unit_holds : (u : PlantUnit) (real commitment : ℕ) (o : Offer)
    → u ≡ record { real = net_kwh real; nominal = record { 0 = 100000 }; commitment = hub commitment; offer = o }
    → real ≤ 1000000 → commitment ≤ 1000000 → offer_holds o ≡ true → UnitHolds u
unit_holds u real commitment o e able committed offered =
    rw e (record { able = able; rated = (omega arith, omega arith); committed = committed; offered = offered })

-- unit 1, 2 and 3 of example 12, and no unit at the other places
module _ (a b c : PlantUnit) (a-holds : UnitHolds a) (b-holds : UnitHolds b) (c-holds : UnitHolds c) where
  pub three_units : (k : ℕ) → member_at 7 k ≡ true → UnitHolds (get_or (set (set (replicate 8 c) 0 a) 1 b) k past_unit)
  three_units zero m = a-holds
  three_units (suc zero) m = b-holds
  three_units (suc (suc k)) m =
      rw (
        get_or-set_other (set (replicate 8 c) 0 a) 1 (suc (suc k)) b past_unit (λ e. absurd (omega arith)),
        get_or-set_other (replicate 8 c) 0 (suc (suc k)) a past_unit (λ e. absurd (omega arith)),
        get_or-replicate 8 (suc (suc k)) c past_unit (place_lt 7 (suc (suc k)) m),
      )
      c-holds
