use mathlib.Core.Path.{◌≡◌}
use Rattle.postings.specs.Journal.{scanned_to}
use Rattle.journal.proofs.scan.Given as goal

abbrev pub invariant-loop-x : goal.invariant-loop-x
invariant-loop-x l = l.sum ≡ scanned_to l.list l.unit l.item l.x-index
