-- Bytes written behind others: each takes the next place while there is room, and none where there is not. From the start of a buffer on
-- they are its first bytes.
-- Assumes nothing.
use mathlib.Core.Path.{◌≡◌, ap, ap₂, sym, ◌∙◌}
use mathlib.Core.List.{List, [], ◌∷◌, ◌++◌, append_assoc}
use Prim.Native.Nat.{ℕ, suc, ◌+◌, min}
use native.Mathlib.Omega.{arith}
use borrow.Author.Tests.{lt-ltb, le-ltb}
use lib.ListN.{length, take, drop, length-append}
use lib.Seq.{set-append_seam, take-nil, drop-nil}
use Rattle.decimal.specs.Output.{Output, output, with_byte, written, filled}

-- one byte, with room and without
byte_in : (done : List ℕ) (y : ℕ) (ys : List ℕ) (b : ℕ) → with_byte (output (done ++ (y ∷ ys)) (length done)) b ≡ output ((done ++ (b ∷ [])) ++ ys) (length (done ++ (b ∷ [])))
unfolding with_byte
byte_in done y ys b =
    simp (lt-ltb (length done) (length (done ++ (y ∷ ys))) (omega (arith, length-append done (y ∷ ys))))
    (ap₂ output (set-append_seam done y ys b ∙ sym (append_assoc done (b ∷ []) ys)) (sym (length-append done (b ∷ []))))

byte_out : (done : List ℕ) (b : ℕ) → with_byte (output (done ++ []) (length done)) b ≡ output (done ++ []) (length done)
unfolding with_byte
byte_out done b = simp (le-ltb (length done) (length (done ++ [])) (omega (arith, length-append done [])))

behind : (done rest bs : List ℕ) → written (output (done ++ rest) (length done)) bs ≡ output (done ++ (take (length rest) bs ++ drop (length bs) rest)) (length done + min (length bs) (length rest))
unfolding written
behind done rest [] =
    let n : length done ≡ length done + min 0 (length rest) = omega arith in
    ap₂ output (ap (λ (x : List ℕ). done ++ (x ++ rest)) (sym (take-nil (length rest)))) n
behind done [] (b ∷ bs) =
    let n : length done + min (length bs) 0 ≡ length done + min (suc (length bs)) 0 = omega arith in
    ap (λ (o : Output). written o bs) (byte_out done b)
    ∙ (behind done [] bs ∙ ap₂ output (ap (λ (x : List ℕ). done ++ x) (drop-nil (length bs))) n)
behind done (y ∷ ys) (b ∷ bs) =
    let tail = take (length ys) bs ++ drop (length bs) ys in
    let n : length (done ++ (b ∷ [])) + min (length bs) (length ys) ≡ length done + min (suc (length bs)) (suc (length ys)) =
    omega (arith, length-append done (b ∷ []))
    in
    ap (λ (o : Output). written o bs) (byte_in done y ys b)
    ∙ (behind (done ++ (b ∷ [])) ys bs ∙ ap₂ output (append_assoc done (b ∷ []) tail) n)

-- from the start of a buffer
pub written_filled : (buffer bs : List ℕ) → written (output buffer 0) bs ≡ filled buffer bs
written_filled buffer bs =
    let n : 0 + min (length bs) (length buffer) ≡ min (length bs) (length buffer) = omega arith in
    behind [] buffer bs ∙ ap (output (take (length buffer) bs ++ drop (length bs) buffer)) n
