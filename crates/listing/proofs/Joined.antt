-- The parts written one after the other: one more part behind the first i. Assumes nothing.
use mathlib.Core.Path.{◌≡◌, sym, ap, ◌∙◌}
use mathlib.Core.List.{List}
use Prim.Native.Nat.{ℕ, ◌+◌}
use native.Mathlib.Numerals.{add-one}
use Rattle.decimal.specs.declared.Writer.{Writer}
use Rattle.decimal.specs.Writer.{Wrote, held}
use Rattle.decimal.specs.Output.{Output, written}
use Rattle.decimal.proofs.Laws.{written_append, written_none}
use Rattle.listing.specs.Listing.{joined}

pub none_joined : (o : Output) (f : ℕ → List ℕ) → written o (joined 0 f) ≡ o
unfolding joined
none_joined o f = written_none o

pub next_joined : (i : ℕ) (f : ℕ → List ℕ) (o : Output) → written (written o (joined i f)) (f i) ≡ written o (joined (i + 1) f)
unfolding joined
next_joined i f o = written_append o (joined i f) (f i) ∙ ap (λ (n : ℕ). written o (joined n f)) (sym (add-one i))

pub joined_more : (i : ℕ) (f : ℕ → List ℕ) (a b c : Writer) → Wrote a b (joined i f) → Wrote b c (f i) → Wrote a c (joined (i + 1) f)
joined_more i f a b c e g =
    record {
      same_buffer = g.same_buffer ∙ e.same_buffer;
      bytes_after = g.bytes_after ∙ (ap (λ (o : Output). written o (f i)) e.bytes_after ∙ next_joined i f (held a));
    }
