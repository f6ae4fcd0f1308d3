-- A take, release or move as the code has it, where the entries, the limit and the verdict are results of calls: each of its two returns is what the
-- definition says. What comes fits, since the verdict has compared it with the last offer quantity and what is given makes no commitment larger.
-- Assumes nothing.
use Rattle.std.specs.Prelude.{Ok, Err}
use mathlib.Core.Path.{◌≡◌, refl, ap, ◌∙◌}
use mathlib.Core.Bool.{Bool, true, false}
use mathlib.Core.List.{List}
use Prim.Native.Nat.{ℕ, ◌+◌, ◌-◌, ◌/◌, ◌%◌, ◌≤◌, ◌<◌}
use native.Mathlib.Omega.{arith}
use borrow.Author.Tests.{eqb-true, eqb-false}
use lib.Dec.{eqb}
use lib.ListN.{length, get_or, set}
use lib.Seq.{get_or-set_same, get_or-set_other}
use Rattle.energy.specs.declared.HubKwh.{HubKwh}
use Rattle.sheet.specs.declared.Sheet.{Sheet}
use Rattle.state.specs.declared.Book.{Book}
use Rattle.state.specs.Sizes.{places}
use Rattle.state.specs.Book.{no_kwh, mark_at, settled_mark}
use Rattle.state.specs.Ranges.{limit_at}
use Rattle.ledger.specs.declared.Refusal.{Refusal}
use Rattle.ledger.specs.Answers.{Verdict}
use Rattle.ledger.specs.declared.Effect.TheVariants.{Committed}
use Rattle.ledger.specs.Calls.{verdict}
use Rattle.decisions.specs.declared.CommitmentChange.{CommitmentChange}
use Rattle.decisions.specs.Changes.{hour_index, entry_index, change_tests}
use Rattle.decisions.proofs.Changes.{changed_passed}
use Rattle.commitments.specs.Changed.{kwh_in, with_kwh, Changed, verdict_in, changed_in}

-- after a store of less than what was there, no commitment is larger
less_after : (c : List HubKwh) (i j : ℕ) (x : HubKwh) → i < length c → x.0 ≤ (get_or c i no_kwh).0 → (get_or (set c i x) j no_kwh).0 ≤ (get_or c j no_kwh).0
less_after c i j x l s = by (eqb j i) refl
  where
    by : (t : Bool) → eqb j i ≡ t → (get_or (set c i x) j no_kwh).0 ≤ (get_or c j no_kwh).0
    by true e = rw (eqb-true j i e, get_or-set_same c i x no_kwh l) s
    by false e = rw (get_or-set_other c i j x no_kwh (eqb-false j i e)) (omega arith)

module _ (s : Sheet) (b : Book) (x : CommitmentChange) (h from to : ℕ) (settled : Bool) (last : HubKwh)
    (from_is : from ≡ entry_index x.hour x.from) (to_is : to ≡ entry_index x.hour x.to) (h_is : h ≡ hour_index x.hour)
    (settled_is : settled ≡ eqb (mark_at b h) settled_mark) (last_is : last ≡ limit_at s (to / places) (to % places)) where
  abbrev found : Verdict
  found = verdict (change_tests s.units x settled (kwh_in b from) (kwh_in b to) last.0)

  found_is : verdict_in s b x ≡ found
  found_is = rw (last_is, settled_is, h_is, from_is, to_is)

  pub refused_change : (r : Refusal) → found ≡ Err r → ◌≡◌ {A = Changed} (record { book = b; answer = Err r }) (changed_in s b x)
  unfolding changed_in
  refused_change r e = rw (found_is ∙ e)

  module _ (left : HubKwh) (left_is : left.0 ≡ kwh_in b from - x.out.0) (e : found ≡ Ok tt) where
    abbrev given : Book
    given = with_kwh b from left.0

    pub accepted_change : (sum : HubKwh) → sum.0 ≡ kwh_in given to + x.into.0
        → ◌≡◌ {A = Changed} (record { book = with_kwh given to sum.0; answer = Ok Committed }) (changed_in s b x)
    unfolding changed_in
    accepted_change sum sum_is = rw (found_is ∙ e, sum_is, left_is, from_is, to_is)

    pub change_room : from < length b.commitment → last.0 < 18446744073709551616 → kwh_in given to + x.into.0 < 18446744073709551616
    change_room l m =
        let p = changed_passed s.units x settled (kwh_in b from) (kwh_in b to) last.0 e in
        let n = less_after b.commitment from to left l (omega (arith, left_is)) in
        omega (arith, p.room, n)
