-- Each return is a case of the definition: by where the LF is found, by the key, and by the value.
-- Assumes nothing.
use Prim.Native.Nat.{◌<◌, ◌-◌}
use mathlib.Core.Path.{◌≡◌, ap, ◌∙◌}
use native.Mathlib.Omega.{arith}
use lib.ListN.{length, take, drop}
use Rattle.text.specs.declared.Row.{Row}
use Rattle.values.specs.Values.{into, value_of}
use Rattle.asks.specs.Asks.{row_of, line_asking, asking_by, asking_at}
use Rattle.asks.proofs.Parts.{no_line_end, by_line}
use Rattle.asks.proofs.ask.Goals.{After-kind_of, After-read_value}
use Rattle.asks.proofs.ask.Goals as goal

pub returns-then-text-e-clause-value : goal.returns-then-text-e-clause-value
returns-then-text-e-clause-value c = no_line_end c.args.text.now c.args.at c.find-e.result c.find-e.ensures c.if-text-e.true

-- what is asked by the kind that is found
by_kind : (c : After-kind_of) → line_asking c.args.text.now (take (c.find-e.result - c.args.at) (drop c.args.at c.args.text.now)) c.find-e.result c.kind_of.result ≡ asking_at c.args.text.now c.args.at
by_kind c =
    let g = c.args in
    let t = g.text.now in
    let e = c.find-e.result in
    let short : e < length t = omega (arith, c.if-text-e.false) in
    ap (line_asking t (take (e - g.at) (drop g.at t)) e) c.kind_of.ensures ∙ by_line t g.at e c.find-e.ensures short

pub returns-in_default-clause-value : goal.returns-in_default-clause-value
returns-in_default-clause-value c = rw c.in_default.is at (by_kind (goal.at.returns-in_default-clause-value c).After-kind_of)

-- what is asked by the value that is read
by_value : (c : After-read_value)
    → line_asking c.args.text.now (take (c.find-e.result - c.args.at) (drop c.args.at c.args.text.now)) c.find-e.result c.kind_of.result ≡ asking_at c.args.text.now c.args.at
    → asking_by c.args.text.now c.in-Some.kind c.find-e.result (into c.read_value.result c.read_value.new.line) ≡ asking_at c.args.text.now c.args.at
by_value c whole =
    let k = c.in-Some.kind in
    let value = c.read_value.ensures ∙ (ap (λ (r : Row). value_of r c.value_of.result.now) c.row.ensures ∙ ap (value_of (row_of k)) c.value_of.ensures) in
    ap (asking_by c.args.text.now k c.find-e.result) value ∙ rw c.in-Some.is at whole

pub returns-in-Ok-clause-value : goal.returns-in-Ok-clause-value
returns-in-Ok-clause-value c =
    let v = goal.at.returns-in-Ok-clause-value c in
    let e = rw c.in-Ok.is at (by_value v.After-read_value (by_kind v.After-kind_of)) in
    rw c.asking_of.ensures.value e

pub returns-in-Err-clause-value : goal.returns-in-Err-clause-value
returns-in-Err-clause-value c =
    let v = goal.at.returns-in-Err-clause-value c in
    rw c.in-Err.is at (by_value v.After-read_value (by_kind v.After-kind_of))
