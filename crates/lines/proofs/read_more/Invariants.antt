use Prim.Native.Nat.{ℕ, ◌+◌, ◌≤◌}
use mathlib.Core.Path.{◌≡◌}
use lib.ListN.{length}
use Rattle.lines.specs.Lines.{Reading}
use Rattle.lines.specs.Cells.{line_in, Kept, cursor_of}
use Rattle.lines.proofs.Shown.{Shown}
use Rattle.lines.proofs.read_more.Given as goal

abbrev pub invariant-loop-i : goal.invariant-loop-i
invariant-loop-i g l =
    (l.d.lines ≡ l.initial.d.lines + l.i)
    × (length l.kept ≡ length l.initial.kept)
    × ((s : Reading) → l.initial.d ≡ cursor_of s → Kept l.initial.kept s.lines → Shown l.text (g.F.Frame.due l.frame) l.i s l.d l.kept)
    × ((k : ℕ) → l.d.lines ≤ k → line_in l.kept k ≡ line_in l.initial.kept k)
