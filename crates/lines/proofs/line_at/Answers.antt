-- The line is cut out of the text at its LF and its value out of the line, so each return is a case of the definition.
-- Assumes nothing.
use Prim.Native.Nat.{ℕ, ◌+◌}
use mathlib.Core.Path.{◌≡◌, ap, sym, ◌∙◌}
use mathlib.Core.Bool.{true, false}
use Rattle.std.specs.Prelude.{Result, Ok}
use Rattle.std.proofs.lemmas.Result.{err_from_is_err_and}
use Rattle.text.specs.declared.Line.{Line}
use Rattle.text.specs.declared.TextFault.{TextFault}
use Rattle.values.specs.Values.{into, value_of}
use Rattle.lines.specs.Lines.{line_at, place_after}
use Rattle.lines.specs.Cells.{ending}
use Rattle.lines.proofs.Reading.{unended, by_key}
use Rattle.lines.proofs.line_at.Goals.{After-read_value}
use Rattle.lines.proofs.line_at.Goals as goal

pub returns-then-text-end : goal.returns-then-text-end
returns-then-text-end c =
    let g = c.args in
    ap (ending (place_after g.text.now g.at)) (unended g.text.now g.at g.row.now c.find-end.result c.find-end.ensures c.if-text-end.true)

pub returns-then-not-key_is : goal.returns-then-not-key_is
returns-then-not-key_is c =
    let g = c.args in
    ap (ending (place_after g.text.now g.at))
    (by_key g.text.now g.at g.row.now c.find-end.result c.find-end.ensures c.if-text-end.false false (sym c.key_is.ensures ∙ c.if-not-key_is.true))

-- the value that is read is that of the line at the place
read : (c : After-read_value) → into c.read_value.result c.read_value.new.line ≡ line_at c.args.text.now c.args.at c.args.row.now
read c =
    let g = c.args in
    (c.read_value.ensures ∙ ap (value_of g.row.now) c.value_of.ensures)
    ∙ by_key g.text.now g.at g.row.now c.find-end.result c.find-end.ensures c.if-text-end.false true (sym c.key_is.ensures ∙ c.if-not-key_is.false)

pub returns-in_err-read_value : goal.returns-in_err-read_value
returns-in_err-read_value c =
    let p = err_from_is_err_and c.from_residual.result c.from_residual.ensures.1 in
    rw (p.1, p.2) (ap (ending (place_after c.args.text.now c.args.at)) (rw c.in_err-read_value.was at (read (goal.at.returns-in_err-read_value c).After-read_value)))

pub returns : goal.returns
returns c =
    let next : c.find-end.result + 1 ≡ place_after c.args.text.now c.args.at = ap (λ (n : ℕ). n + 1) c.find-end.ensures in
    ap {B = Result (Line × ℕ) TextFault} (λ (n : ℕ). Ok (c.read_value.new.line, n)) next
    ∙ ap (ending (place_after c.args.text.now c.args.at)) (rw c.in_ok-read_value.was at (read (goal.at.returns c).After-read_value))
