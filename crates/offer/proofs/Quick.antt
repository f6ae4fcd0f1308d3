-- Blocks and costs as antt computes them at numerals: step by step, and not grain by grain.
-- A step's grains are its block; past its quantity the later steps alone matter.
-- Assumes nothing.
use mathlib.Core.Path.{◌≡◌, refl, sym, ◌∙◌, ap, ap₂}
use mathlib.Core.Bool.{cond}
use Prim.Native.Nat.{ℕ, zero, suc, ◌+◌, ◌*◌, ◌-◌, ◌<◌, ◌≤◌, min, max}
use native.Mathlib.Decide.{dec_lt, dec_le}
use native.Mathlib.Omega.{arith}
use borrow.Author.Tests.{lt-ltb, le-ltb}
use lib.Dec.{ltb}
use Rattle.finite.specs.Finite.{sum}
use Rattle.finite.proofs.Sums.{sum_flat, sum_agree}
use Rattle.energy.specs.declared.HubKwh.{HubKwh}
use Rattle.energy.specs.Energy.{grains_of}
use Rattle.offer.specs.declared.Offer.{Offer}
use Rattle.offer.specs.Offer.{quantity_at, step_price}
use Rattle.offer.specs.Modified.{price_from, price_at, cost_to, cost_between, IsBlock}
use Rattle.offer.proofs.Blocks.{committed, uncommitted}
use Rattle.offer.proofs.Costs.{cost_first}

-- where the block of grain i ends, by the steps s, .., s + k, within the limit
unfoldable pub end_from : Offer → ℕ → ℕ → ℕ → ℕ → ℕ
end_from o s zero i limit = limit
end_from o s (suc k) i limit =
    cond (ltb i (grains_of (quantity_at o s)).0) (min (grains_of (quantity_at o s)).0 limit) (end_from o (s + 1) k i limit)

-- where the modified offer's block of grain i ends, within the limit
unfoldable pub end_of : Offer → HubKwh → ℕ → ℕ → ℕ
end_of o commitment i limit =
    cond (ltb i (grains_of commitment).0) (min (grains_of commitment).0 limit) (end_from o 0 (o.steps - 1) i limit)

-- what the grains from a up to b cost by the steps s, .., s + k
unfoldable pub cost_from : Offer → ℕ → ℕ → ℕ → ℕ → ℕ
cost_from o s zero a b = (b - a) * step_price o s
cost_from o s (suc k) a b =
    let q = (grains_of (quantity_at o s)).0 in (min b q - a) * step_price o s + cost_from o (s + 1) k (max a q) b

record Flat (f : ℕ → ℕ) (i limit end : ℕ) : Type 0 where
  past : i < end
  within : end ≤ limit
  flat : (j : ℕ) → i ≤ j → j < end → f j ≡ f i

-- a first part that ends at q at one price, and what follows it
joined : (f : ℕ → ℕ) (q p i limit end : ℕ) → i < limit → Flat f i limit end → Flat (λ (j : ℕ). cond (ltb j q) p (f j)) i limit (cond (ltb i q) (min q limit) end)
joined f q p i limit end l h = go (dec_lt i q)
  where
    go : Dec (i < q) → Flat (λ (j : ℕ). cond (ltb j q) p (f j)) i limit (cond (ltb i q) (min q limit) end)
    go (yes lq) =
        rw (lt-ltb i q lq)
        (record {
          past = omega arith;
          within = omega arith;
          flat = λ j k m. let lj : j < q = omega arith in rw (lt-ltb j q lj, lt-ltb i q lq);
        })
    go (no lq) =
        let li : q ≤ i = omega arith in
        rw (le-ltb i q li)
        (record {
          past = h.past;
          within = h.within;
          flat = λ j k m. let lj : q ≤ j = omega arith in rw (le-ltb j q lj, le-ltb i q li) (h.flat j k m);
        })

-- the parts from a up to b, where each is p
run : (f : ℕ → ℕ) (p a b : ℕ) → ((u : ℕ) → a ≤ u → u < b → f u ≡ p) → sum (max a b) f ≡ sum a f + (b - a) * p
run f p a b h =
    let e : max a b - a ≡ b - a = omega arith in
    sum_flat a (max a b) f (omega arith) p (λ u l k. h u l (omega arith)) ∙ ap (λ (d : ℕ). sum a f + d * p) e

-- parts that are p below q and those of g from there on
summed : (f g : ℕ → ℕ) (p q a b c : ℕ) → ((j : ℕ) → j < q → f j ≡ p) → ((j : ℕ) → q ≤ j → f j ≡ g j) → sum (max (max a q) b) g ≡ sum (max a q) g + c → sum (max a b) f ≡ sum a f + ((min b q - a) * p + c)
summed f g p q a b c low high h = go (dec_le q b)
  where
    first : sum (max a (min b q)) f ≡ sum a f + (min b q - a) * p
    first = run f p a (min b q) (λ u l k. low u (omega arith))

    second : sum (max (max a q) b) f ≡ sum (max a q) f + c
    second =
        omega
        (arith, h, sum_agree (max a q) (max (max a q) b) f (omega arith) g (λ u l k. high u (omega arith)))

    go : Dec (q ≤ b) → sum (max a b) f ≡ sum a f + ((min b q - a) * p + c)
    go (yes l) =
        let e1 : max a (min b q) ≡ max a q = omega arith in
        let e2 : max (max a q) b ≡ max a b = omega arith in
        omega (arith, first, second, ap (λ (n : ℕ). sum n f) e1, ap (λ (n : ℕ). sum n f) e2)
    go (no l) =
        let e1 : max a (min b q) ≡ max a b = omega arith in
        let e2 : max (max a q) b ≡ max a q = omega arith in
        omega (arith, first, second, ap (λ (n : ℕ). sum n f) e1, ap (λ (n : ℕ). sum n f) e2)

module _ (o : Offer) where
  steps_flat : (s k i limit : ℕ) → i < limit → Flat (price_from o s k) i limit (end_from o s k i limit)
  unfolding price_from end_from
  steps_flat s zero i limit l = record { past = l; within = omega arith; flat = λ j k m. refl }
  steps_flat s (suc k) i limit l =
      joined (price_from o (s + 1) k) (grains_of (quantity_at o s)).0 (step_price o s) i limit (end_from o (s + 1) k i limit) l
      (steps_flat (s + 1) k i limit l)

  pub end_block : (commitment : HubKwh) (i limit : ℕ) → i < limit → IsBlock o commitment i limit (price_at o commitment i) (end_of o commitment i limit)
  unfolding price_at end_of
  end_block commitment i limit l =
      let f = joined (price_from o 0 (o.steps - 1)) (grains_of commitment).0 0 i limit (end_from o 0 (o.steps - 1) i limit) l
      (steps_flat 0 (o.steps - 1) i limit l) in
      record { past = f.past; within = f.within; flat = f.flat }

  -- what the grains from a up to b cost, by steps
  steps_cost : (k s a b : ℕ) → sum (max a b) (price_from o s k) ≡ sum a (price_from o s k) + cost_from o s k a b
  unfolding price_from cost_from
  steps_cost zero s a b = run (price_from o s 0) (step_price o s) a b (λ u h l. refl)
  steps_cost (suc k) s a b =
      let q = (grains_of (quantity_at o s)).0 in
      summed (price_from o s (suc k)) (price_from o (s + 1) k) (step_price o s) q a b (cost_from o (s + 1) k (max a q) b)
      (λ j l. rw (lt-ltb j q l)) (λ j l. rw (le-ltb j q l)) (steps_cost k (s + 1) (max a q) b)

  -- by the steps from s on
  abbrev pub cost_on : ℕ → ℕ → ℕ → ℕ
  cost_on s a b = cost_from o s (o.steps - 1 - s) a b

  pub cost_next : (s a b more at : ℕ) → s < o.steps - 1 → more ≡ min b (grains_of (quantity_at o s)).0 - a → at ≡ max a (grains_of (quantity_at o s)).0 → cost_on s a b ≡ more * step_price o s + cost_on (s + 1) at b
  unfolding cost_from
  cost_next s a b more at l m e =
      let k : o.steps - 1 - s ≡ suc (o.steps - 1 - (s + 1)) = omega arith in
      rw (k, m, e)

  pub cost_last : (s a b : ℕ) → o.steps - 1 ≤ s → cost_on s a b ≡ (b - a) * step_price o s
  unfolding cost_from
  cost_last s a b l =
      let k : o.steps - 1 - s ≡ 0 = omega arith in
      rw k

  -- the grains from a up to b: below the commitment they cost nothing
  pub cost_steps : (commitment : HubKwh) (a b : ℕ) → a ≤ b → cost_between o commitment a b ≡ cost_on 0 (max a (grains_of commitment).0) b
  unfolding cost_between cost_to
  cost_steps commitment a b l =
      let q = (grains_of commitment).0 in
      let f = price_at o commitment in
      let g = price_from o 0 (o.steps - 1) in
      let c = cost_from o 0 (o.steps - 1) (max a q) b in
      let e : max a b ≡ b = omega arith in
      let k : o.steps - 1 ≡ o.steps - 1 - 0 = omega arith in
      let h : sum (max a b) f ≡ sum a f + ((min b q - a) * 0 + c)
      = summed f g 0 q a b c (committed o commitment) (uncommitted o commitment) (steps_cost (o.steps - 1) 0 (max a q) b) in
      omega (arith, h, ap (λ (m : ℕ). sum m f) e, ap (λ (m : ℕ). cost_from o 0 m (max a q) b) k)

  pub cost_quick : (commitment : HubKwh) (n : ℕ) → cost_to o commitment n ≡ cost_from o 0 (o.steps - 1) (grains_of commitment).0 n
  cost_quick commitment n =
      let q = (grains_of commitment).0 in
      let z : max 0 q ≡ q = omega arith in
      let k : o.steps - 1 - 0 ≡ o.steps - 1 = omega arith in
      sym (cost_first o commitment n)
      ∙ cost_steps commitment 0 n (omega arith)
      ∙ ap₂ (λ (j m : ℕ). cost_from o 0 j m n) k z
