-- Both ends are clipped to the text, and a part that begins past the text or past its own end is empty either way.
-- Assumes nothing.
use mathlib.Core.Path.{◌≡◌, refl, sym, ap, ◌∙◌}
use mathlib.Core.Bool.{Bool, true, false}
use mathlib.Core.List.{List}
use Prim.Native.Nat.{ℕ, ◌-◌, min}
use native.Mathlib.Omega.{arith}
use borrow.Author.Tests.{leb-true, leb-false}
use lib.Dec.{leb}
use lib.ListN.{length, length-drop, take, drop, drop_of_length-le}
use lib.Seq.{take_all, take-nil}
use Rattle.ledger.specs.Requests.{part_of}
use Rattle.decisions.proofs.part_of.Goals as goal

module _ (l : List ℕ) (begin end first last : ℕ) (el : last ≡ min end (length l)) (ef : first ≡ min begin last) where
  empty : (n : ℕ) (k : List ℕ) → n ≡ 0 → take 0 k ≡ take n k
  empty n k e = ap (λ (m : ℕ). take m k) (sym e)

  clipped : take (last - first) (drop first l) ≡ take (end - begin) (drop begin l)
  clipped = by (leb begin last) refl (leb end (length l)) refl
    where
      by : (t : Bool) → leb begin last ≡ t → (u : Bool) → leb end (length l) ≡ u → take (last - first) (drop first l) ≡ take (end - begin) (drop begin l)
      by true h true k =
          let b : first ≡ begin = omega (arith, leb-true begin last h) in
          let e : last ≡ end = omega (arith, leb-true end (length l) k) in
          λ i. take (e i - b i) (drop (b i) l)
      by true h false k =
          let b : first ≡ begin = omega (arith, leb-true begin last h) in
          let e : last ≡ length l = omega (arith, leb-false end (length l) k) in
          (λ i. take (e i - b i) (drop (b i) l))
          ∙ (take_all (length l - begin) (drop begin l) (omega (arith, length-drop begin l))
          ∙ sym (take_all (end - begin) (drop begin l) (omega (arith, length-drop begin l, leb-false end (length l) k))))
      by false h true k =
          let n = leb-false begin last h in
          let m = leb-true end (length l) k in
          sym (empty (last - first) (drop first l) (omega (arith, n))) ∙ empty (end - begin) (drop begin l) (omega (arith, n, m))
      by false h false k =
          let n = leb-false begin last h in
          let m = leb-false end (length l) k in
          sym (empty (last - first) (drop first l) (omega (arith, n)))
          ∙ (sym (take-nil (end - begin)) ∙ ap (take (end - begin)) (sym (drop_of_length-le l {i = begin} (omega (arith, n, m)))))

pub returns : goal.returns
unfolding part_of
returns c = clipped c.args.text.now _ _ _ _ c.min-last.ensures c.min-first.ensures
