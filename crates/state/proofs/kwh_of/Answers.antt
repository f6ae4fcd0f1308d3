-- `map` takes each commitment's number.
-- Assumes nothing.
use Rattle.std.proofs.Common.{rules, ℕ}
use Rattle.finite.proofs.Chains.{tabulate_map}
use Rattle.energy.specs.declared.HubKwh.{HubKwh}
use Rattle.state.specs.Book.{no_kwh}
use Rattle.state.specs.Numbers.{kwh_of}
use Rattle.state.proofs.kwh_of.Goals as goal

pub returns : goal.returns
unfolding kwh_of
returns c = tabulate_map {B = ℕ} (λ (x : HubKwh). x.0) _ _ _ no_kwh c.map.ensures.items (λ x y q k. search rules)
