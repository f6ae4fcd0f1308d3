-- The kinds' sums and the split by them. A span adds at most 60 × 10^6 to one kind, and a unit has at most six spans, so every product that
-- the split makes is a machine number; the parts of the split add up to the deviation, or to 0 where all sums are 0.
-- Assumes nothing.
use mathlib.Core.Path.{◌≡◌, refl, sym, ◌∙◌, ap}
use mathlib.Core.Bool.{Bool, true, false, cond}
use Prim.Native.Nat.{ℕ, ◌+◌, ◌-◌, ◌^◌, ◌≤◌, ◌<◌}
use native.Mathlib.Nat.{mul-le-mul}
use native.Mathlib.Decide.{dec_lt, ℕ_discrete}
use native.Mathlib.Omega.{arith}
use mathlib.Core.List.{List}
use borrow.Author.Tests.{eq-eqb, ne_eqb}
use lib.Dec.{eqb}
use lib.ListN.{length, get_or, set, replicate, length-set, get_or-replicate}
use lib.Seq.{get_or-set_same, get_or-set_other, ext_get_or}
use Rattle.finite.specs.Finite.{sum, tabulate}
use Rattle.finite.proofs.Sums.{sum_most, sum_same, sum_zero, sum_has, sum_next}
use Rattle.finite.proofs.Tables.{length_tabulate, get_d_tabulate}
use Rattle.energy.specs.declared.NetKwh.{NetKwh}
use Rattle.energy.specs.Energy.{net_of}
use Rattle.apportion.specs.Shares.{sum_of, shares, Fits}
use Rattle.apportion.proofs.Laws.{shares_zero, shares_total}
use Rattle.record.specs.declared.Span.{Span}
use Rattle.record.specs.declared.UnitRecord.{UnitRecord}
use Rattle.record.specs.Spans.{counted_kind, span_at, span_count}
use Rattle.record.specs.InRange.{SpanInRange, UnitInRange}
use Rattle.formulas.specs.Items.{first_kind, kinds, no_deviation, deviation_at, whole_deviation}
use Rattle.deviation.specs.Deviation.{short_minutes, counted_as, proportion, proportions, deviations_of}
use Rattle.deviation.specs.Deviation.{SplitReady}

pub short_most : (own : ℕ) (test : NetKwh) (s : Span) → test.0 ≤ 1000000 → s.minutes ≤ 60 → short_minutes own test s ≤ 60000000
unfolding short_minutes
short_most own test s t m = let h : test.0 - (net_of s.capability own).0 ≤ 1000000 = omega arith in omega (arith, mul-le-mul h m)

pub counted_most : (own : ℕ) (test : NetKwh) (kind : ℕ) (s : Span) → test.0 ≤ 1000000 → SpanInRange s → counted_as own test kind s ≤ 60000000
counted_most own test kind s t r = by (eqb (counted_kind s) kind)
  where
    by : (b : Bool) → cond b (short_minutes own test s) 0 ≤ 60000000
    by true = short_most own test s t r.minutes_most
    by false = omega arith

module _ (own : ℕ) (u : UnitRecord) where
  -- the sums after the first n spans: one span more adds to the kind that it counts as, or to none
  pub record Counted (n : ℕ) (sums : List ℕ) : Type 0 where
    pub long : length sums ≡ kinds
    pub kind : (j : ℕ) → j < kinds → get_or sums j 0 ≡ sum n (λ i. counted_as own u.test (first_kind + j) (span_at u i))

  pub counted_none : Counted 0 (replicate kinds 0)
  unfolding sum
  counted_none = record { long = refl; kind = λ j l. get_or-replicate kinds j 0 0 l }

  module _ (n : ℕ) (sums : List ℕ) (s : Counted n sums) where
    other_kind : (j : ℕ) → j < kinds → (counted_kind (span_at u n) ≡ first_kind + j → ⊥)
        → get_or sums j 0 ≡ sum (n + 1) (λ i. counted_as own u.test (first_kind + j) (span_at u i))
    other_kind j l apart =
        let f : ℕ → ℕ = λ i. counted_as own u.test (first_kind + j) (span_at u i) in
        let e : f n ≡ 0 = rw (ne_eqb (counted_kind (span_at u n)) (first_kind + j) apart) in
        omega (arith, s.kind j l, sum_next n f)

    same_kind : (j : ℕ) → j < kinds → counted_kind (span_at u n) ≡ first_kind + j
        → get_or sums j 0 + short_minutes own u.test (span_at u n)
        ≡ sum (n + 1) (λ i. counted_as own u.test (first_kind + j) (span_at u i))
    same_kind j l same =
        let f : ℕ → ℕ = λ i. counted_as own u.test (first_kind + j) (span_at u i) in
        let e : f n ≡ short_minutes own u.test (span_at u n) = rw (eq-eqb (counted_kind (span_at u n)) (first_kind + j) same) in
        omega (arith, s.kind j l, sum_next n f)

    pub counted_in : (k : ℕ) → k < kinds → counted_kind (span_at u n) ≡ first_kind + k
        → Counted (n + 1) (set sums k (get_or sums k 0 + short_minutes own u.test (span_at u n)))
    counted_in k lk same = record { long = simp length-set s.long; kind = λ j l. by j l (ℕ_discrete j k) }
      where
        by : (j : ℕ) → j < kinds → Dec (j ≡ k)
            → get_or (set sums k (get_or sums k 0 + short_minutes own u.test (span_at u n))) j 0
            ≡ sum (n + 1) (λ i. counted_as own u.test (first_kind + j) (span_at u i))
        by j l (yes e) =
            rw e (get_or-set_same sums k _ 0 (omega (arith, s.long)) ∙ same_kind k lk same)
        by j l (no d) = get_or-set_other sums k j _ 0 d ∙ other_kind j l (λ e. d (omega arith))

    pub counted_out : counted_kind (span_at u n) < first_kind → Counted (n + 1) sums
    counted_out low = record { long = s.long; kind = λ j l. other_kind j l (λ e. absurd (omega arith)) }

module _ (own : ℕ) (u : UnitRecord) (h : UnitInRange u) where
  -- the sum of a kind, over the first n spans
  pub part_most : (kind n : ℕ) → n ≤ u.spans → sum n (λ i. counted_as own u.test kind (span_at u i)) ≤ 360000000
  unfolding sum
  part_most kind n l =
      omega (
        arith,
        h.spans_most,
        sum_most 0 n (λ i. counted_as own u.test kind (span_at u i)) (omega arith) 60000000
            (λ i a b. counted_most own u.test kind (span_at u i) h.test (h.span i (omega arith))),
      )

  pub proportion_most : (kind : ℕ) → proportion own u kind ≤ 360000000
  unfolding proportion
  proportion_most kind = part_most kind (span_count u) (omega arith)

  pub proportions_length : length (proportions own u) ≡ kinds
  unfolding proportions
  proportions_length = length_tabulate kinds (λ j. proportion own u (first_kind + j))

  pub proportion_at : (j : ℕ) → j < kinds → get_or (proportions own u) j 0 ≡ proportion own u (first_kind + j)
  unfolding proportions
  proportion_at j l = get_d_tabulate kinds (λ j. proportion own u (first_kind + j)) j 0 l

  pub counted_all : (n : ℕ) (sums : List ℕ) → n ≡ span_count u → Counted own u n sums → sums ≡ proportions own u
  unfolding proportion
  counted_all n sums e s =
      ext_get_or 0 sums (proportions own u) (s.long ∙ sym proportions_length)
      (λ j l.
      let below : j < kinds = omega (arith, s.long) in
      s.kind j below
      ∙ ap (λ (m : ℕ). sum m (λ i. counted_as own u.test (first_kind + j) (span_at u i))) e
      ∙ sym (proportion_at j below))

  place_most : (j : ℕ) → j < kinds → get_or (proportions own u) j 0 ≤ 360000000
  place_most j l = omega (arith, proportion_at j l, proportion_most (first_kind + j))

  -- the split's numbers are machine numbers
  pub proportions_fit : (sum_of (proportions own u) < 2 ^ 64) × Fits (proportions own u) u.deviation.0
  unfolding sum
  proportions_fit =
      let n = proportions_length in (
        rw n (omega (arith, sum_most 0 kinds (λ j. get_or (proportions own u) j 0) (omega arith) 360000000 (λ j a b. place_most j b))),
        λ j l. omega (arith, mul-le-mul h.deviation (place_most j (omega arith))),
      )

  -- the parts are the shares, and add up as they do
  parts : whole_deviation (deviations_of own u) ≡ sum kinds (λ i. get_or (shares (proportions own u) u.deviation.0) i 0)
  unfolding deviations_of
  parts =
      let part : ℕ → NetKwh = λ j. record { 0 = get_or (shares (proportions own u) u.deviation.0) j 0 } in
      sum_same kinds (λ i. (get_or (tabulate kinds part) i no_deviation).0) (λ i. (part i).0)
      (λ i l. ap (λ (k : NetKwh). k.0) (get_d_tabulate kinds part i no_deviation l))

  -- to no more than the deviation
  pub split_most : whole_deviation (deviations_of own u) ≤ u.deviation.0
  split_most = go (dec_lt 0 (sum_of (proportions own u)))
    where
      go : Dec (0 < sum_of (proportions own u)) → whole_deviation (deviations_of own u) ≤ u.deviation.0
      go (yes some) = omega (arith, parts, rw proportions_length at (shares_total (proportions own u) u.deviation.0 some))
      go (no none) =
          let w = proportions own u in
          omega (
            arith,
            parts,
            sum_zero kinds (λ i. get_or (shares w u.deviation.0) i 0)
                (λ i l. ap (λ s. get_or s i 0) (shares_zero w u.deviation.0 (omega arith)) ∙ get_or-replicate (length w) i 0 0 (omega (arith, proportions_length))),
          )

  -- to all of it where some sum is over 0, as refusal 33 sees to; a deviation of 0 has parts of 0
  pub split_all : 0 < sum_of (proportions own u) → whole_deviation (deviations_of own u) ≡ u.deviation.0
  split_all some = parts ∙ rw proportions_length at (shares_total (proportions own u) u.deviation.0 some)

  pub split_none : u.deviation.0 ≡ 0 → (i : ℕ) → i < kinds → (deviation_at (deviations_of own u) i).0 ≡ 0
  split_none e i l = omega (arith, sum_has kinds i (λ i. (deviation_at (deviations_of own u) i).0) l, split_most)

  pub split_ready : SplitReady (deviations_of own u)
  split_ready = omega (arith, split_most, h.deviation)
