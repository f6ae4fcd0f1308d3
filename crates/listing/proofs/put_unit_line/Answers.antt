-- One item more at a time.
-- Assumes nothing.
use native.Mathlib.Omega.{arith}
use Rattle.std.proofs.Common.{rules}
use Rattle.decimal.specs.Writer.{Wrote}
use Rattle.listing.specs.Listing.{item_field}
use Rattle.listing.proofs.Joined.{joined_more}
use Rattle.listing.proofs.put_unit_line.Goals as goal

pub loop-amount-preserved : goal.loop-amount-preserved
unfolding item_field
loop-amount-preserved c =
    let item : Wrote c.loop-amount.out c.put_field-in-loop-amount.new.self (item_field c.args.amounts c.loop-amount.amount-index) = search rules in
    record {
      result_after = joined_more c.loop-amount.amount-index (item_field c.args.amounts) c.put_field-2.new.self c.loop-amount.out c.put_field-in-loop-amount.new.self c.loop-amount.invariant.result_after item;
      upper_bound = omega (arith, c.put_field-in-loop-amount.ensures.upper_bound);
    }
