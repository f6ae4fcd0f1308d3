-- One entry more at a time.
-- Assumes nothing.
use Prim.Native.Nat.{ℕ}
use mathlib.Core.Path.{◌≡◌, ap, ◌∙◌}
use native.Mathlib.Omega.{arith}
use Rattle.decimal.specs.Output.{written}
use Rattle.decimal.specs.Writer.{held}
use Rattle.listing.specs.Listing.{joined}
use Rattle.listing.proofs.Joined.{joined_more}
use Rattle.entries.proofs.Commitments.{entry_commitment, all_commitments}
use Rattle.entries.proofs.put_commitments.Goals as goal

pub loop-e-preserved : goal.loop-e-preserved
loop-e-preserved c =
    let g = c.args in
    joined_more c.loop-e.e (entry_commitment g.book.now) g.out.now c.loop-e.out c.put_commitment.new.out c.loop-e.invariant c.put_commitment.ensures

pub returns : goal.returns
returns c =
    let g = c.args in
    let all : c.loop-e.e ≡ 192 = omega (arith, c.loop-e-test.false) in
    let w = c.loop-e.invariant in
    record {
      same_buffer = w.same_buffer;
      bytes_after = w.bytes_after
          ∙ (ap (λ (n : ℕ). written (held g.out.now) (joined n (entry_commitment g.book.now))) all
          ∙ ap (written (held g.out.now)) (all_commitments g.book.now));
    }
