-- An answer in its four places: storing it keeps how many places there are, and its four numbers are those of its reply.
-- Assumes nothing.
use Rattle.std.specs.Prelude.{Ok, Err}
use mathlib.Core.Path.{◌≡◌, refl, sym, ap, ◌∙◌}
use mathlib.Core.Bool.{Bool, true, false, cond}
use mathlib.Core.List.{List, [], ◌∷◌}
use native.Mathlib.Omega.{arith}
use lib.Seq.{paste, paste-zero, paste-suc}
use Prim.Native.Nat.{ℕ, zero, suc, ◌+◌, ◌*◌, ◌/◌, ◌≤◌}
use lib.Dec.{ltb}
use lib.ListN.{length, set, length-set}
use Rattle.sheet.specs.declared.Sheet.{Sheet}
use Rattle.ledger.specs.Answers.{Answer}
use Rattle.ledger.specs.declared.Effect.TheVariants.{Committed, Posted}
use Rattle.ledger.specs.Ledger.{Reply}
use Rattle.ledger.specs.Numbers.{reply_of, number_of, line_of, posted_of}
use Rattle.journal.specs.Run.{Running, replied, answered, turned, ran_all}

-- four numbers pasted are set one after the other
pub four_pasted : (l : List ℕ) (at a b c d : ℕ) → at + 4 ≤ length l
    → paste l at (a ∷ b ∷ c ∷ d ∷ []) 4 ≡ set (set (set (set l at a) (at + 1) b) (at + 2) c) (at + 3) d
four_pasted l at a b c d h =
    let s : List ℕ = a ∷ b ∷ c ∷ d ∷ [] in
    let z : at + 0 ≡ at = omega arith in
    sym (ap (λ (x : List ℕ). set (set (set (set x at a) (at + 1) b) (at + 2) c) (at + 3) d) (paste-zero l at s)
    ∙ (ap (λ (n : ℕ). set (set (set (set (paste l at s 0) n a) (at + 1) b) (at + 2) c) (at + 3) d) (sym z)
    ∙ (ap (λ (x : List ℕ). set (set (set x (at + 1) b) (at + 2) c) (at + 3) d) (paste-suc l at s 0 0 (omega arith) (omega arith))
    ∙ (ap (λ (x : List ℕ). set (set x (at + 2) c) (at + 3) d) (paste-suc l at s 1 0 (omega arith) (omega arith))
    ∙ (ap (λ (x : List ℕ). set x (at + 3) d) (paste-suc l at s 2 0 (omega arith) (omega arith))
    ∙ paste-suc l at s 3 0 (omega arith) (omega arith))))))

pub length_replied : (l : List ℕ) (i number line posted place : ℕ) → length (replied l i number line posted place) ≡ length l
length_replied l i number line posted place = by (ltb i (length l / 4))
  where
    by : (t : Bool) → length (cond t (set (set (set (set l (4 * i) number) (4 * i + 1) line) (4 * i + 2) posted) (4 * i + 3) place) l) ≡ length l
    by true = simp length-set
    by false = refl

-- along a list of calls
pub length_answers : (sheet : Sheet) (calls text : List ℕ) (s : Running) (k : ℕ) → length (ran_all sheet calls text s k).answers ≡ length s.answers
unfolding ran_all turned answered
length_answers sheet calls text s zero = refl
length_answers sheet calls text s (suc k) = length_replied (ran_all sheet calls text s k).answers k _ _ _ _ ∙ length_answers sheet calls text s k

pub reply_is : (a : Answer) (place : ℕ) → ◌≡◌ {A = Reply} (record { number = number_of a; line = line_of a; posted = posted_of a; place = place }) (reply_of a place)
reply_is (Ok Committed) place = refl
reply_is (Ok (Posted n)) place = refl
reply_is (Err r) place = refl
