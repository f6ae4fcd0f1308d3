-- Each of the lines that are carried out is a call or a total: a line that is no call comes behind all of those that are counted.
-- Assumes nothing.
use mathlib.Core.Path.{◌≡◌, refl, ap, sym, subst, ◌∙◌}
use mathlib.Core.Bool.{Bool, true, false, cond}
use mathlib.Core.List.{List}
use Prim.Native.Nat.{ℕ, zero, suc, ◌<◌}
use native.Mathlib.Omega.{arith}
use lib.Dec.{ltb}
use lib.ListN.{length}
use Rattle.std.specs.Prelude.{None, Result, Ok, Err, IsOk}
use Rattle.sheet.specs.declared.Sheet.{Sheet}
use Rattle.text.specs.declared.TextFault.{TextFault}
use Rattle.asks.specs.declared.Asks.{Asks}
use Rattle.asks.specs.declared.Asks.TheVariants.{Call, Total}
use Rattle.asks.specs.declared.Asking.{Asking}
use Rattle.asks.specs.Asks.{asking_at}
use Rattle.asks.specs.Extent.{stop_at, extent_from, extent_by, extent_of}
use Rattle.daybook.specs.Replay.{Course, left_by_asks, stepped_by, stepped, steps}

module _ (sheet : Sheet) (text : List ℕ) where
  next_left : (c : Course) (next : ℕ) (a : Asks) → (left_by_asks sheet text c next a).at ≡ next
  next_left c next (Call a) = refl
  next_left c next (Total unit item) = refl

  next_place : (c : Course) (a : Asking) → asking_at text c.at ≡ Ok a → (stepped sheet text c).at ≡ a.next
  unfolding stepped
  next_place c a e = ap (λ (r : Result Asking TextFault). (stepped_by sheet text c r).at) e ∙ next_left c a.next a.asked

  -- the first line, then the others
  first_then : (c : Course) (k : ℕ) → steps sheet text c (suc k) ≡ steps sheet text (stepped sheet text c) k
  unfolding steps
  first_then c zero = refl
  first_then c (suc k) = ap (stepped sheet text) (first_then c k)

  IsCall : (c : Course) (k : ℕ) → Type 0
  IsCall c k = IsOk (asking_at text (steps sheet text c k).at)

  by_line : (left : ℕ) (c : Course) → ((d : Course) (k : ℕ) → k < (extent_by left text d.at).calls → IsCall d k)
      → (t : Bool) (r : Result Asking TextFault) → asking_at text c.at ≡ r → (k : ℕ)
      → k < (cond t (extent_from (extent_by left text) text c.at r) (stop_at None)).calls → IsCall c k
  unfolding IsCall steps
  by_line left c further false r e k h = absurd (omega arith)
  by_line left c further true (Err f) e k h = absurd (omega arith)
  by_line left c further true (Ok a) e zero h = rw e refl
  by_line left c further true (Ok a) e (suc k) h =
      let p : (stepped sheet text c).at ≡ a.next = next_place c a e in
      let fewer : k < (extent_by left text (stepped sheet text c).at).calls = rw p (omega arith) in
      subst (λ (d : Course). IsOk (asking_at text d.at)) (sym (first_then c k)) (further (stepped sheet text c) k fewer)

  within : (left : ℕ) (c : Course) (k : ℕ) → k < (extent_by left text c.at).calls → IsCall c k
  unfolding extent_by
  within zero c k h = absurd (omega arith)
  within (suc left) c k h = by_line left c (λ (d : Course) (j : ℕ) (b : j < (extent_by left text d.at).calls). within left d j b) (ltb c.at (length text)) (asking_at text c.at) refl k h

pub carried_calls : (sheet : Sheet) (text : List ℕ) (c : Course) (k : ℕ) → k < (extent_of text c.at).calls → IsOk (asking_at text (steps sheet text c k).at)
unfolding IsCall
carried_calls sheet text c k h = within sheet text (length text) c k h
