-- The postings up to the count are a first part of the list.
-- Assumes nothing.
use Rattle.std.proofs.Common.{◌≤◌, ◌∙◌, arith, length}
use lib.Seq.{length-take-le}
use Rattle.postings.proofs.Counted.{covered_list}
use Rattle.journal.proofs.Scanned.{scanned_covered}
use Rattle.journal.proofs.Accounts.sum_of.Goals as goal

pub slice_bounds-scan-end : goal.slice_bounds-scan-end
slice_bounds-scan-end c =
    let a = c.args.self.now in
    let n = c.covered-n.result in
    let inside : n ≤ length a.list.now = omega (arith, c.covered-n.ensures, covered_list a.count (length a.list.now)) in
    omega (arith, length-take-le n a.list.now inside)

pub returns : goal.returns
returns c = let a = c.args.self.now in c.scan.ensures ∙ scanned_covered a.list.now a.count c.args.unit c.args.item _ c.covered-n.ensures
