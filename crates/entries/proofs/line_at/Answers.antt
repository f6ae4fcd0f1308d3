-- The part before the LF; past the end of the text there is none.
-- Assumes nothing.
use Prim.Native.Nat.{ℕ, ◌-◌, ◌≤◌}
use mathlib.Core.Path.{◌≡◌, ap}
use native.Mathlib.Omega.{arith}
use lib.ListN.{length, take, drop, length-drop, drop_of_length-le}
use Rattle.text.proofs.Walk.{seek_le}
use Rattle.text.specs.Text.{seek}
use Rattle.entries.specs.Entries.{line_text}
use Rattle.entries.proofs.line_at.Goals as goal

pub slice_bounds-result-end : goal.slice_bounds-result-end
slice_bounds-result-end c =
    let g = c.args in
    omega (arith, c.find.ensures, seek_le 10 10 (drop g.from g.text.now), length-drop g.from g.text.now)

pub returns-then-from-text : goal.returns-then-from-text
unfolding line_text
returns-then-from-text c =
    let g = c.args in
    let n : c.find.result - g.from ≡ seek 10 10 (drop g.from g.text.now) = omega (arith, c.find.ensures) in
    ap (λ (k : ℕ). take k (drop g.from g.text.now)) n

pub returns-else-from-text : goal.returns-else-from-text
unfolding line_text seek
returns-else-from-text c =
    let g = c.args in
    let past : length g.text.now ≤ g.from = omega (arith, c.if-from-text.false) in
    rw (drop_of_length-le g.text.now {i = g.from} past)
