-- Each return is a case of the definition: past the end, no LF, a take, a record, another key.
-- Assumes nothing.
use Prim.Native.Nat.{◌+◌}
use mathlib.Core.Path.{sym, ap, ◌∙◌}
use Rattle.std.proofs.lemmas.Result.{err_from_is_err_and}
use Rattle.std.specs.Prelude.{Result, Ok, Some}
use Rattle.text.specs.declared.Row.{Row}
use Rattle.text.specs.declared.Line.{Line}
use Rattle.text.specs.declared.TextFault.{TextFault}
use Rattle.values.specs.Values.{value_of}
use Rattle.ledger.specs.declared.Asked.{Asked}
use Rattle.day_calls.specs.declared.Next.TheVariants.{Take, Settle}
use Rattle.day_calls.specs.DayCalls.{take_row, take_of, Coming}
use Rattle.day_calls.proofs.Reading.{past_end, unended, take_line, record_line, other_line}
use Rattle.day_calls.proofs.next_at.Goals as goal

pub returns-then-text-at : goal.returns-then-text-at
returns-then-text-at c = past_end c.args.text.now c.args.at c.if-text-at.true

pub returns-then-text-e : goal.returns-then-text-e
returns-then-text-e c = unended c.args.text.now c.args.at c.if-text-at.false c.find-e.result c.find-e.ensures c.if-text-e.true

pub returns-in_err-read_value : goal.returns-in_err-read_value
returns-in_err-read_value c =
    let v = c.value_of.result in
    let p = err_from_is_err_and c.from_residual.result c.from_residual.ensures.1 in
    let read = c.read_value.ensures ∙ (ap (λ (r : Row). value_of r v.now) c.take_row.ensures ∙ ap (value_of take_row) c.value_of.ensures) in
    rw (p.1, p.2)
    (ap (λ (l : Result Line TextFault). take_of l (c.find-e.result + 1)) (rw c.in_err-read_value.was at read)
    ∙ take_line c.args.text.now c.args.at c.if-text-at.false c.find-e.result c.find-e.ensures c.if-text-e.false (sym c.key_is.ensures ∙ c.if-key_is.true))

pub returns-then-key_is : goal.returns-then-key_is
returns-then-key_is c =
    let v = c.value_of.result in
    let read = c.read_value.ensures ∙ (ap (λ (r : Row). value_of r v.now) c.take_row.ensures ∙ ap (value_of take_row) c.value_of.ensures) in
    ap {B = Coming} (λ (a : Asked). Ok (Some (Take a (c.find-e.result + 1)))) c.take_asked.ensures
    ∙ (ap (λ (l : Result Line TextFault). take_of l (c.find-e.result + 1)) (rw c.in_ok-read_value.was at read)
    ∙ take_line c.args.text.now c.args.at c.if-text-at.false c.find-e.result c.find-e.ensures c.if-text-e.false (sym c.key_is.ensures ∙ c.if-key_is.true))

pub returns-then-key_is-2 : goal.returns-then-key_is-2
returns-then-key_is-2 c =
    ap {B = Coming} (λ (a : Asked). Ok (Some (Settle a))) c.settle_at.ensures
    ∙ record_line c.args.text.now c.args.at c.if-text-at.false c.find-e.result c.find-e.ensures c.if-text-e.false (sym c.key_is.ensures ∙ c.if-key_is.false) (sym c.key_is-2.ensures ∙ c.if-key_is-2.true)

pub returns : goal.returns
returns c =
    other_line c.args.text.now c.args.at c.if-text-at.false c.find-e.result c.find-e.ensures c.if-text-e.false (sym c.key_is.ensures ∙ c.if-key_is.false) (sym c.key_is-2.ensures ∙ c.if-key_is-2.false)
