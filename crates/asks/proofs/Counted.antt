-- The calls of a text, one by one as the code counts them: those counted and those from the place on are all.
-- Assumes nothing.
use mathlib.Core.Path.{◌≡◌, ap, ◌∙◌}
use mathlib.Core.List.{List}
use Prim.Native.Nat.{ℕ, zero, suc, ◌+◌, ◌-◌, ◌≤◌, ◌<◌}
use native.Mathlib.Omega.{arith}
use borrow.Author.Tests.{lt-ltb, le-ltb}
use lib.ListN.{length}
use Rattle.std.specs.Prelude.{Some, None, Result, Ok, Err}
use Rattle.text.specs.declared.TextFault.{TextFault}
use Rattle.asks.specs.declared.Asking.{Asking}
use Rattle.asks.specs.declared.Extent.{Extent}
use Rattle.asks.specs.Asks.{asking_at}
use Rattle.asks.specs.Extent.{counted, stop_at, extent_from, extent_by, line_number}

with_calls : (e : Extent) (n m : ℕ) → n ≡ m → ◌≡◌ {A = Extent} (record { calls = n; stop = e.stop }) (record { calls = m; stop = e.stop })
with_calls e n m h = ap {B = Extent} (λ (k : ℕ). record { calls = k; stop = e.stop }) h

pub none_counted : (text : List ℕ) (at : ℕ) → counted 0 (extent_by (length text - 0) text at) ≡ extent_by (length text) text at
none_counted text at =
    let n : length text - 0 ≡ length text = omega arith in
    let e = extent_by (length text) text at in
    ap (λ (k : ℕ). counted 0 (extent_by k text at)) n ∙ with_calls e (0 + e.calls) e.calls (omega arith)

module _ (text : List ℕ) (at calls : ℕ) where
  pub counted_end : (left : ℕ) → length text ≤ at → counted calls (extent_by left text at) ≡ record { calls = calls; stop = None }
  unfolding extent_by
  counted_end zero h = with_calls (stop_at None) (calls + 0) calls (omega arith)
  counted_end (suc left) h = simp (le-ltb _ _ h) (with_calls (stop_at None) (calls + 0) calls (omega arith))

  module _ (few : calls ≤ at) (within : at < length text) where
    more : length text - calls ≡ suc (length text - (calls + 1))
    more = omega arith

    -- the line at the place, then those behind it
    by_line : counted calls (extent_by (length text - calls) text at) ≡ counted calls (extent_from (extent_by (length text - (calls + 1)) text) text at (asking_at text at))
    unfolding extent_by
    by_line = ap (λ (k : ℕ). counted calls (extent_by k text at)) more ∙ simp (lt-ltb _ _ within)

    asked : Result Asking TextFault → Extent
    asked r = counted calls (extent_from (extent_by (length text - (calls + 1)) text) text at r)

    pub counted_stop : (f : TextFault) → asking_at text at ≡ Err f
        → counted calls (extent_by (length text - calls) text at) ≡ record { calls = calls; stop = Some (record { fault = f; line = line_number text at }) }
    unfolding asked
    counted_stop f e =
        by_line ∙ (ap asked e ∙ with_calls (stop_at (Some (record { fault = f; line = line_number text at }))) (calls + 0) calls (omega arith))

    pub counted_on : (a : Asking) → asking_at text at ≡ Ok a
        → counted calls (extent_by (length text - calls) text at) ≡ counted (calls + 1) (extent_by (length text - (calls + 1)) text a.next)
    unfolding asked
    counted_on a e =
        let x = extent_by (length text - (calls + 1)) text a.next in
        by_line ∙ (ap asked e ∙ with_calls x (calls + (1 + x.calls)) (calls + 1 + x.calls) (omega arith))
