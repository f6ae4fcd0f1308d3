-- What a line asks, part by part as the code goes.
-- Assumes nothing.
use mathlib.Core.Path.{◌≡◌, ap, sym, ◌∙◌}
use mathlib.Core.List.{List}
use Prim.Native.Nat.{ℕ, ◌+◌, ◌-◌, ◌≤◌, ◌<◌}
use native.Mathlib.Omega.{arith}
use borrow.Author.Tests.{lt-ltb, le-ltb}
use lib.ListN.{length, drop, take, length-drop}
use Rattle.std.specs.Prelude.{Result, Err}
use Rattle.text.specs.Text.{seek, before}
use Rattle.text.specs.declared.TextFault.{TextFault}
use Rattle.text.specs.declared.TextFault.TheVariants.{TextEnds}
use Rattle.asks.specs.declared.Asking.{Asking}
use Rattle.asks.specs.Asks.{kind_of, line_asking, asking_at}
use Rattle.record_end.proofs.Behind.{whole}

-- the line at a place whose LF is looked for and found at e
module _ (text : List ℕ) (at e : ℕ) (he : e ≡ at + seek 10 10 (drop at text)) where
  pub no_line_end : length text ≤ e → ◌≡◌ {A = Result Asking TextFault} (Err TextEnds) (asking_at text at)
  unfolding asking_at
  no_line_end h =
      let n : length (drop at text) ≤ seek 10 10 (drop at text) = omega (arith, length-drop at text) in
      simp (le-ltb _ _ n)

  module _ (short : e < length text) where
    ends : seek 10 10 (drop at text) < length (drop at text)
    ends = omega (arith, length-drop at text)

    abbrev line : List ℕ
    line = take (e - at) (drop at text)

    pub by_line : line_asking text line e (kind_of line) ≡ asking_at text at
    unfolding asking_at
    by_line =
        (ap (λ (l : List ℕ). line_asking text l e (kind_of l)) (whole text at e he short)
        ∙ ap (λ (j : ℕ). line_asking text (before 10 (drop at text)) j (kind_of (before 10 (drop at text)))) he)
        ∙ sym (simp (lt-ltb _ _ ends))
