-- What the comparisons of two energies, which are derived, say of their amounts.
-- Assumes nothing.
use Rattle.std.proofs.Common.{rules, arith, ◌≡◌, ◌∙◌, sym, ap, ℕ, ◌≤◌, ◌<◌, true, false}
use native.Mathlib.Decide.{dec_lt}
use Rattle.std.specs.Prelude.{ltb, min, max}
use Rattle.std.specs.Ordering.{nat_cmp, is_lt, is_gt, ord_min, ord_max}
use Rattle.std.proofs.lemmas.Bool.{ltb-true, ltb-false, lt-ltb, le-ltb}

module _ (a b : ℕ) where
  pub lt_ltb : is_lt (nat_cmp a b) ≡ ltb a b
  lt_ltb = search rules

  pub gt_ltb : is_gt (nat_cmp a b) ≡ ltb b a
  gt_ltb = search rules

  -- as rules for `omega` and `grind`
  pub lt_true : is_lt (nat_cmp a b) ≡ true → a < b
  lt_true t = ltb-true a b (sym lt_ltb ∙ t)

  pub lt_false : is_lt (nat_cmp a b) ≡ false → b ≤ a
  lt_false t = ltb-false a b (sym lt_ltb ∙ t)

  pub gt_true : is_gt (nat_cmp a b) ≡ true → b < a
  gt_true t = ltb-true b a (sym gt_ltb ∙ t)

  pub gt_false : is_gt (nat_cmp a b) ≡ false → a ≤ b
  gt_false t = ltb-false b a (sym gt_ltb ∙ t)

-- the lesser and the greater of two energies by `min` and `max`; `amount` is what they are compared by
module _ {T : Type 0} (amount : T → ℕ) (r a b : T) where
  pub min_amount : r ≡ ord_min (λ x y. nat_cmp (amount x) (amount y)) a b → amount r ≡ min (amount a) (amount b)
  min_amount e = ap amount e ∙ go (dec_lt (amount b) (amount a))
    where
      go : Dec (amount b < amount a) → amount (ord_min (λ x y. nat_cmp (amount x) (amount y)) a b) ≡ min (amount a) (amount b)
      go (yes l) = rw (lt_ltb (amount b) (amount a) ∙ lt-ltb _ _ l) (omega arith)
      go (no l) = let n : amount a ≤ amount b = omega arith in rw (lt_ltb (amount b) (amount a) ∙ le-ltb _ _ n) (omega arith)

  pub max_amount : r ≡ ord_max (λ x y. nat_cmp (amount x) (amount y)) a b → amount r ≡ max (amount a) (amount b)
  max_amount e = ap amount e ∙ go (dec_lt (amount b) (amount a))
    where
      go : Dec (amount b < amount a) → amount (ord_max (λ x y. nat_cmp (amount x) (amount y)) a b) ≡ max (amount a) (amount b)
      go (yes l) = rw (lt_ltb (amount b) (amount a) ∙ lt-ltb _ _ l) (omega arith)
      go (no l) = let n : amount a ≤ amount b = omega arith in rw (lt_ltb (amount b) (amount a) ∙ le-ltb _ _ n) (omega arith)
