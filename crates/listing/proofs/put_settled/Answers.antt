-- One line more has as much room again; an entry that is not listed has no line.
-- Assumes nothing.
use Prim.Native.Nat.{◌+◌, ◌*◌, ◌≤◌}
use mathlib.Core.Path.{◌≡◌}
use native.Mathlib.Omega.{arith}
use native.Mathlib.Numerals.{add-one}
use native.Mathlib.Nat.{suc-mul}
use lib.ListN.{length}
use Rattle.std.proofs.lemmas.Grind.{common_steps}
use Rattle.decimal.specs.Writer.{Wrote}
use Rattle.decimal.proofs.Laws.{written_append, written_none}
use Rattle.listing.specs.Listing.{most_line, entry_line}
use Rattle.listing.proofs.Joined.{joined_more}
use Rattle.listing.proofs.put_settled.Goals.{then-is_listed, else-is_listed}
use Rattle.listing.proofs.put_settled.Goals as goal

pub loop-e-preserved : goal.loop-e-preserved
loop-e-preserved c =
    let g = c.args in
    let f = entry_line g.front.now g.units g.book.now in
    let room = length g.front.now + most_line in
    let one_more : (c.loop-e.e + 1) * room ≡ c.loop-e.e * room + room = rw (add-one c.loop-e.e) (suc-mul c.loop-e.e room) in
    let line : Wrote c.loop-e.out c.if-is_listed.out (f c.loop-e.e) =
    elim c.if-is_listed.branch [
      | then-is_listed w ↦ grind (arith, common_steps, written_append)
      | else-is_listed w ↦ grind (arith, common_steps, written_none)
    ] in
    let bound : c.if-is_listed.out.place ≤ c.loop-e.out.place + room =
    elim c.if-is_listed.branch [
      | then-is_listed w ↦ grind (arith, common_steps)
      | else-is_listed w ↦ grind (arith, common_steps)
    ] in
    record {
      result_after = joined_more c.loop-e.e f g.out.now c.loop-e.out c.if-is_listed.out c.loop-e.invariant.result_after line;
      upper_bound = omega (arith, one_more, bound, c.loop-e.invariant.upper_bound);
    }
