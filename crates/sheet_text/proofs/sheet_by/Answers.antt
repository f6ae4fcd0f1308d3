-- The factors and the units are made by index; each other field is its line.
-- Assumes nothing.
use Rattle.std.proofs.Common.{rules}
use Prim.Native.Nat.{◌+◌}
use mathlib.Core.Path.{◌≡◌}
use Rattle.finite.specs.Finite.{tabulate}
use Rattle.finite.proofs.Chains.{tabulate_from_fn}
use Rattle.lines.specs.Cells.{line_in}
use Rattle.lines.specs.Lines.{number_of}
use Rattle.sheet_text.specs.Day.{place_by, sheet_by}
use Rattle.sheet_text.proofs.sheet_by.Goals as goal

pub returns : goal.returns
unfolding sheet_by
returns c =
    let f = line_in c.args.kept.now in
    let cpf : c.from_fn.result ≡ tabulate 24 (λ h. number_of (f (5 + h))) =
    tabulate_from_fn (λ h. number_of (f (5 + h))) _ _ c.from_fn.ensures.items (λ i y q l k. search rules) in
    let unit : c.from_fn-2.result ≡ tabulate 8 (place_by f (number_of (f 29))) =
    tabulate_from_fn (place_by f (number_of (f 29))) _ _ c.from_fn-2.ensures.items (λ i y q l k. search rules) in
    λ i. record {
      month = number_of (f 0);
      day = number_of (f 1);
      loss = number_of (f 2);
      ceiling = number_of (f 3);
      bar = number_of (f 4);
      cpf = cpf i;
      units = number_of (f 29);
      unit = unit i;
    }
