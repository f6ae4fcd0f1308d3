-- The bytes before the word's '=' are compared.
-- Assumes nothing.
use native.Mathlib.Omega.{arith}
use mathlib.Core.Path.{◌≡◌, ap, sym, ◌∙◌}
use borrow.Author.Tests.{le-ltb}
use lib.Dec.{eqb}
use lib.ListN.{take}
use lib.Pointwise.{pointwise}
use Prim.Native.Nat.{ℕ}
use Rattle.text.specs.Text.{seek}
use Rattle.text.proofs.Walk.{word_within, word_without}
use Rattle.text.proofs.word_is.Goals as goal

pub returns-then-n-lt10 : goal.returns-then-n-lt10
returns-then-n-lt10 c =
    let n : c.find-n.result ≡ seek 61 61 c.args.word = omega (arith, c.find-n.ensures) in
    (c.eq.ensures ∙ ap (λ (k : ℕ). pointwise eqb c.args.text.now (take k c.args.word)) n)
    ∙ sym (word_within c.args.text.now c.args.word (omega (arith, c.well_formed)))

pub returns-else-n-lt10 : goal.returns-else-n-lt10
returns-else-n-lt10 c = le-ltb _ _ c.if-n-lt10.false ∙ sym (word_without c.args.text.now c.args.word (omega (arith, c.well_formed)))
