-- The eight numbers are copied to their places, and all others are as they were.
-- Assumes nothing.
use mathlib.Core.Path.{refl, sym, ◌∙◌}
use mathlib.Core.List.{[], ◌∷◌}
use native.Mathlib.Omega.{arith}
use Rattle.std.proofs.lemmas.Slice.{put_mid-paste}
use Rattle.finite.specs.Finite.{tabulate}
use Rattle.finite.proofs.Tables.{length_tabulate}
use Rattle.ledger.specs.Requests.{call_numbers}
use Rattle.day_calls.proofs.Pasted.{own_entries}
use Rattle.day_calls.specs.DayCalls.{number_of, stored_at}
use Rattle.day_calls.proofs.store_call.Goals as goal

pub returns : goal.returns
unfolding stored_at
returns c =
    let a = c.args.a in
    put_mid-paste _ _ _ _ (tabulate call_numbers (number_of a)) call_numbers
    (c.copy_from_slice.ensures.after ∙ sym (own_entries call_numbers (a.kind ∷ a.hour ∷ a.unit ∷ a.to ∷ a.kwh ∷ a.begin ∷ a.end ∷ a.start ∷ []) 0 refl)) (omega arith)
    (sym (length_tabulate call_numbers (number_of a)))
