-- The first place of the mark in what is left, or its end, is what the definition seeks.
-- Assumes nothing.
use Rattle.std.proofs.Common.{rules}
use borrow.Author.Tests.{tests}
use Rattle.text.proofs.Walk.{seek_end, sought}
use Rattle.std.proofs.lemmas.Slice.{between_to_end}
use Rattle.text.specs.Text.{seek}
use native.Mathlib.Omega.{arith}
use Prim.Native.Nat.{◌≤◌}
use lib.ListN.{length, drop}
use mathlib.Core.Path.{◌≡◌, ap}
use mathlib.Core.List.{List}
use Prim.Native.Nat.{ℕ}
use Rattle.text.proofs.find.Goals as goal

pub returns-in_default : goal.returns-in_default
returns-in_default c =
    let past : length c.args.s.now ≤ c.args.from = grind (arith, c.in_default.ensures.lookup) in
    omega (arith, seek_end c.args.mark c.args.mark c.args.s.now c.args.from past)

pub returns : goal.returns
returns c =
    let rest : c.in-Some.rest.now ≡ drop c.args.from c.args.s.now = search (rules, between_to_end) in
    let e = sought c.args.mark c.in-Some.rest.now c.position.result (search rules) c.position.ensures.ran (λ x q k. search (rules, tests)) (λ x q k. search (rules, tests)) in
    omega (arith, c.unwrap_or.ensures, e, ap (λ (l : List ℕ). seek c.args.mark c.args.mark l) rest)
