-- The factors are asked one by one.
-- Assumes nothing.
use Rattle.std.proofs.Common.{rules, ℕ}
use Rattle.std.specs.Prelude.{leb}
use Rattle.finite.proofs.Chains.{every_slice}
use Rattle.sheet.specs.Limits.{most_cpf}
use Rattle.sheet.proofs.cpf_holds.Goals as goal

pub returns : goal.returns
returns c = every_slice (λ (n : ℕ). leb n most_cpf) c.args.cpf.now 24 0 _ (search rules) (search rules) c.all.ensures.ran (λ x y q k. search rules)
