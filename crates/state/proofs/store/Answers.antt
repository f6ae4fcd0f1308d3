-- After k turns the entries of the first k places are stored.
-- Assumes nothing.
use Rattle.std.proofs.Common.{◌≡◌, sym, ◌∙◌, ap, subst, set, ◌+◌, ◌<◌, arith}
use Rattle.state.specs.Sizes.{places, entry_of}
use Rattle.state.proofs.Entries.{read_within, Stored, stored_in, stored_out, stored_all}
use Rattle.state.proofs.store.Goals.{then-member_at, else-member_at}
use Rattle.state.proofs.store.Goals as goal

pub loop-k-preserved : goal.loop-k-preserved
loop-k-preserved g c = λ none.
    let a = c.args in
    let l = c.loop-k in
    let below : l.k < places = omega arith in
    elim c.if-member_at.branch [
      | then-member_at w ↦
          subst (Stored none a.h a.units a.new.now a.all.now (l.k + 1))
          (sym (w.all-is ∙ ap (set l.all (entry_of a.h l.k)) (read_within a.new.now l.k w.index-new-k.result none (omega arith))))
          (stored_in none a.h a.units a.new.now a.all.now l.k l.all (l.invariant none) below c.requires (sym c.member_at.ensures ∙ w.if-member_at.true))
      | else-member_at w ↦
          subst (Stored none a.h a.units a.new.now a.all.now (l.k + 1)) (sym w.all-is)
          (stored_out none a.h a.units a.new.now a.all.now l.k l.all (l.invariant none) below (sym c.member_at.ensures ∙ w.if-member_at.false))
    ]

pub returns : goal.returns
returns g c = λ none.
    let a = c.args in
    let l = c.loop-k in
    let all : l.k ≡ places = omega arith in
    stored_all none a.h a.units a.new.now a.all.now l.all (rw all at (l.invariant none))
