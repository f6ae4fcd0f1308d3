-- The loop's invariant: the parts passed have their quotients.
-- Assumes nothing.
use Rattle.finite.proofs.Tables.{filled_next}
use Rattle.finite.specs.Finite.{tabulate}
use Rattle.apportion.specs.Shares.{quotient}
use lib.ListN.{length-set}
use native.Mathlib.Omega.{arith}
use mathlib.Core.Path.{refl}
use Rattle.apportion.proofs.Division.quotients.Goals as goal

pub loop-i-init : goal.loop-i-init
unfolding tabulate
loop-i-init c = (c.requires, refl)

pub loop-i-preserved : goal.loop-i-preserved
loop-i-preserved c =
    let d = c.args.self.now in
    let l = c.loop-i in
    (simp length-set l.invariant.0, filled_next (quotient d.all d.total d.weights.now) l.shares l.i _ (omega arith) l.invariant.1 refl)
