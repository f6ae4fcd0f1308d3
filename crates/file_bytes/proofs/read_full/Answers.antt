-- A read lands behind what is there already, and what it gave is what the reader lost.
-- Assumes nothing.
use Rattle.std.proofs.Common.{◌≡◌, ℕ, ◌+◌, ◌-◌, ◌≤◌, List, ◌++◌, length, take, drop, rules, sym, ap, ◌∙◌, subst, le_refl, drop_at, length-take-le}
use Rattle.std.proofs.lemmas.Slice.{take-put_mid_below}
use Rattle.std.proofs.KnownBytes.{Consumes-trans}
use Rattle.std.specs.Io.KnownBytes.{Consumes}
use borrow.Rule.Slice.PartMut.{put_mid, post_of}
use lib.Seq.{take-add, take-append-le}
use Rattle.file_bytes.proofs.read_full.Goals as goal

-- the first a bytes stay, and n of the part follow
front_and_part : (a k n : ℕ) (xs ys : List ℕ) → a ≤ length xs → n ≤ length ys → take a xs ++ take n ys ≡ take (a + n) (put_mid a k xs ys)
front_and_part a k n xs ys within fits =
    let front : take a (put_mid a k xs ys) ≡ take a xs = take-put_mid_below a k xs ys a (le_refl a) within in
    let part : take n (drop a (put_mid a k xs ys)) ≡ take n ys =
    ap (take n) (drop_at (take a xs) (ys ++ post_of a k xs) a (length-take-le a xs within)) ∙ take-append-le n ys (post_of a k xs) fits
    in
    ap (λ (l : List ℕ). l ++ take n ys) (sym front) ∙ ap (λ (l : List ℕ). take a (put_mid a k xs ys) ++ l) (sym part) ∙ sym (take-add a n (put_mid a k xs ys))

pub loop-done-preserved : goal.loop-done-preserved
loop-done-preserved g c =
    let done = c.loop-done.done in
    let buffer = c.loop-done.buffer in
    let joined = front_and_part done (length buffer - done) c.in-Ok.n buffer c.read.new.buf c.loop-done.invariant.within c.in-Ok.ensures.bound.0 in
    record {
      within = search rules;
      bytes = subst (Consumes _ _) joined (Consumes-trans _ _ _ _ _ c.loop-done.invariant.bytes c.in-Ok.ensures.bytes.0);
    }
