-- A word is compared, a blank has no number, and the numbers of any other value are read; then the order is tested.
-- Assumes nothing.
use Rattle.std.specs.Prelude.{Result, Ok, Err}
use Rattle.std.proofs.lemmas.Result.{err_from_is_err_and}
use Rattle.text.specs.declared.Line.{Line}
use Rattle.text.specs.declared.TextFault.{TextFault}
use Rattle.text.specs.declared.TextFault.TheVariants.{OfferOrder}
use Rattle.values.specs.Values.{into, value_of, checked, ordered}
use borrow.Author.Tests.{eq-eqb, ne_eqb}
use mathlib.Core.Path.{◌≡◌, ap, sym, ◌∙◌}
use Rattle.values.proofs.read_value.Goals.{After-numbers, In_ok-numbers}
use Rattle.values.proofs.read_value.Goals.{else-row-2-via-then-row-2+else-not-rising, else-row-2-via-else-row-2}
use Rattle.values.proofs.read_value.Goals as goal

pub returns-then-word_is : goal.returns-then-word_is
unfolding value_of
returns-then-word_is c = simp (eq-eqb _ _ c.if-row-eq0.true, sym c.word_is.ensures ∙ c.if-word_is.true) (ap {B = Result Line TextFault} (λ (x : Line). Ok x) c.no_line.ensures)

pub returns-else-word_is : goal.returns-else-word_is
unfolding value_of
returns-else-word_is c = simp (eq-eqb _ _ c.if-row-eq0.true, sym c.word_is.ensures ∙ c.if-word_is.false)

pub returns-then-row : goal.returns-then-row
unfolding value_of
returns-then-row c =
    simp (ne_eqb _ _ c.if-row-eq0.false, sym c.is_empty.ensures ∙ c.if-is_empty.true, c.if-row.true) (ap {B = Result Line TextFault} (λ (x : Line). Ok x) c.no_line.ensures)

pub returns-else-row : goal.returns-else-row
unfolding value_of
returns-else-row c = simp (ne_eqb _ _ c.if-row-eq0.false, sym c.is_empty.ensures ∙ c.if-is_empty.true, c.if-row.false)

-- the value is what is checked of its numbers
checks : (c : After-numbers) → checked c.args.row.now (into c.numbers.result c.numbers.new.line) ≡ value_of c.args.row.now c.args.value.now
unfolding value_of
checks c = simp (ne_eqb _ _ c.if-row-eq0.false, sym c.is_empty.ensures ∙ c.if-is_empty.false) (ap (checked c.args.row.now) c.numbers.ensures)

pub returns-in_err-numbers : goal.returns-in_err-numbers
returns-in_err-numbers c =
    let p = err_from_is_err_and c.from_residual.result c.from_residual.ensures.1 in
    rw (p.1, p.2) (rw c.in_err-numbers.was at (checks (goal.at.returns-in_err-numbers c).After-numbers))

-- and that is their order
ordered_is : (c : In_ok-numbers) → checked c.args.row.now (into c.numbers.result c.numbers.new.line) ≡ value_of c.args.row.now c.args.value.now
    → ordered c.args.row.now c.numbers.new.line ≡ value_of c.args.row.now c.args.value.now
ordered_is c e = rw c.in_ok-numbers.was at e

pub returns-then-not-rising : goal.returns-then-not-rising
returns-then-not-rising c =
    let k : ordered c.args.row.now c.numbers.new.line ≡ Err OfferOrder = simp (c.if-row-2.true, sym c.rising.ensures ∙ c.if-not-rising.true) in
    sym k ∙ ordered_is (goal.at.returns-then-not-rising c).In_ok-numbers (checks (goal.at.returns-then-not-rising c).After-numbers)

pub returns : goal.returns
returns c =
    let k : ordered c.args.row.now c.numbers.new.line ≡ Ok c.numbers.new.line =
    elim c.else-row-2.branch [
      | else-row-2-via-then-row-2+else-not-rising w ↦ simp (w.if-row-2.true, sym w.rising.ensures ∙ w.if-not-rising.false)
      | else-row-2-via-else-row-2 w ↦ simp (w.if-row-2.false)
    ] in
    sym k ∙ ordered_is (goal.at.returns c).In_ok-numbers (checks (goal.at.returns c).After-numbers)
