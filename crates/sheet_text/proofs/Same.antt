-- Two ways to look the lines up that agree make the same sheet: a unit's block lies among the lines read.
-- Assumes nothing.
use mathlib.Core.Path.{◌≡◌, refl, ap, sym, ◌∙◌}
use mathlib.Core.Bool.{Bool, true, false, cond}
use Prim.Native.Nat.{ℕ, ◌+◌, ◌*◌, ◌<◌}
use native.Mathlib.Omega.{arith}
use lib.Count.{ones}
use Rattle.finite.specs.Finite.{tabulate}
use Rattle.finite.proofs.Tables.{tabulate_same}
use Rattle.units.specs.Units.{member_at, members}
use Rattle.units.proofs.Laws.{members_has, members_le, count_members}
use Rattle.text.specs.declared.Line.{Line}
use Rattle.lines.specs.Lines.{number_of}
use Rattle.sheet_lines.specs.Rows.{block_line}
use Rattle.sheet_text.specs.Day.{offer_by, unit_by, place_by, sheet_by}
use Rattle.sheet.specs.Empty.{no_unit}

module _ (f g : ℕ → Line) where
  unit_same : (j : ℕ) → ((i : ℕ) → i < 27 → f (block_line j + i) ≡ g (block_line j + i)) → unit_by f j ≡ unit_by g j
  unfolding unit_by
  unit_same j same = λ i.
      record {
        own = number_of (first i);
        nominal = record { 0 = number_of (same 1 (omega arith) i) };
        monthly = record { 0 = number_of (same 2 (omega arith) i) };
        offers = offers i;
      }
    where
      first : f (block_line j) ≡ g (block_line j)
      first = let e : block_line j + 0 ≡ block_line j = omega arith in ap f (sym e) ∙ (same 0 (omega arith) ∙ ap g e)

      offers : tabulate 24 (λ h. offer_by (f (block_line j + 3 + h))) ≡ tabulate 24 (λ h. offer_by (g (block_line j + 3 + h)))
      offers =
          tabulate_same 24 (λ h. offer_by (f (block_line j + 3 + h))) (λ h. offer_by (g (block_line j + 3 + h)))
          (λ h l. let e : block_line j + 3 + h ≡ block_line j + (3 + h) = omega arith in
          ap (λ (n : ℕ). offer_by (f n)) e ∙ (ap offer_by (same (3 + h) (omega arith)) ∙ ap (λ (n : ℕ). offer_by (g n)) (sym e)))

  -- they agree on the head and on the blocks of the plant's units, of which there are as many as the ones of `units`
  module _ (units : ℕ) (small : units < 256) (agree : (k : ℕ) → k < 256 → k < 30 + 27 * ones units → f k ≡ g k) where
    place_same : (k : ℕ) → k < 8 → place_by f units k ≡ place_by g units k
    place_same k l = by (member_at units k) refl
      where
        by : (t : Bool) → member_at units k ≡ t → cond t (unit_by f (members units k)) no_unit ≡ cond t (unit_by g (members units k)) no_unit
        by true e =
            let m = members_has units k e in
            let c = count_members units small in
            unit_same (members units k) (λ i h. agree (block_line (members units k) + i) (omega (arith, members_le units k)) (omega arith))
        by false e = refl

    pub sheet_same : number_of (f 29) ≡ units → sheet_by f ≡ sheet_by g
    unfolding sheet_by
    sheet_same e = λ i.
        record {
          month = number_of (agree 0 (omega arith) (omega arith) i);
          day = number_of (agree 1 (omega arith) (omega arith) i);
          loss = number_of (agree 2 (omega arith) (omega arith) i);
          ceiling = number_of (agree 3 (omega arith) (omega arith) i);
          bar = number_of (agree 4 (omega arith) (omega arith) i);
          cpf = cpf i;
          units = number_of (agree 29 (omega arith) (omega arith) i);
          unit = unit i;
        }
      where
        cpf : tabulate 24 (λ h. number_of (f (5 + h))) ≡ tabulate 24 (λ h. number_of (g (5 + h)))
        cpf =
            tabulate_same 24 (λ h. number_of (f (5 + h))) (λ h. number_of (g (5 + h)))
            (λ h l. ap number_of (agree (5 + h) (omega arith) (omega arith)))

        unit : tabulate 8 (place_by f (number_of (f 29))) ≡ tabulate 8 (place_by g (number_of (g 29)))
        unit =
            ap (λ (u : ℕ). tabulate 8 (place_by f u)) e
            ∙ (tabulate_same 8 (place_by f units) (place_by g units) place_same
            ∙ ap (λ (u : ℕ). tabulate 8 (place_by g u)) (sym (ap number_of (sym (agree 29 (omega arith) (omega arith))) ∙ e)))
