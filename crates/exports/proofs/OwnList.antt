-- A journal list of its own of which a first part is lent: what is lent, how long it is, and that the part lent again is what came back.
-- Assumes nothing.
use mathlib.Core.Path.{◌≡◌, ap, subst, ◌∙◌}
use mathlib.Core.List.{List, ◌++◌}
use Prim.Native.Nat.{ℕ, ◌≤◌}
use lib.ListN.{length, take, replicate, length-replicate}
use Rattle.std.proofs.Math.Seq.{take-append_seam}
use Rattle.std.proofs.lemmas.List.{take-replicate}
use Rattle.postings.specs.declared.Posting.{Posting}

module _ (p n : ℕ) (x : Posting) (h : p ≤ n) where
  pub front : take p (replicate n x) ≡ replicate p x
  front = take-replicate p n x h

  pub front_length : (m : ℕ) → m ≡ length (take p (replicate n x)) → m ≡ p
  front_length m e = e ∙ (ap length front ∙ length-replicate p x)

module _ (p : ℕ) (a b : List Posting) (e : length a ≡ p) where
  pub again : take p (a ++ b) ≡ a
  again = subst (λ (k : ℕ). take k (a ++ b) ≡ a) e (take-append_seam a b)
