-- Place by place the postings stand in the list, those of a unit behind those before it.
-- Assumes nothing.
use Rattle.std.proofs.Common.{◌≡◌, sym, ◌∙◌, ◌-◌, ◌<◌, arith}
use Rattle.units.specs.Units.{member_at}
use Rattle.state.specs.Sizes.{places}
use Rattle.state.specs.Book.{hour_amounts}
use Rattle.state.proofs.Writing.{hour_amount}
use Rattle.postings.proofs.Appended.{appended_none, appended_room, appended_in, appended_out, appended_all}
use Rattle.postings.proofs.post_hour.Goals.{Start, then-member_at, else-member_at}
use Rattle.postings.proofs.post_hour.Goals as goal

pub loop-k-init : goal.loop-k-init
loop-k-init c = appended_none c.args.list.now c.args.at c.args.hour c.args.units (hour_amounts c.args.book.now (c.args.hour - 1)) c.args.new.now

pub post_unit-requires-clause-room : goal.post_unit-requires-clause-room
post_unit-requires-clause-room c =
    let a = c.args in
    let l = c.loop-k in (
      appended_room a.list.now a.at a.hour a.units _ a.new.now c.requires.room.0 c.requires.room.1 l.k l.next l.list l.invariant (omega arith)
          (sym c.member_at.ensures ∙ c.if-member_at.true),
      omega arith,
    )

pub post_unit-requires-clause-within : goal.post_unit-requires-clause-within
post_unit-requires-clause-within c =
    let a = c.args in
    let l = c.loop-k in
    let m = sym c.member_at.ensures ∙ c.if-member_at.true in
    (rw (hour_amount a.book.now (a.hour - 1) l.k (omega arith)) at (c.requires.within.0 l.k m), c.requires.within.1 l.k m)

pub overflow_add-next : goal.overflow_add-next
overflow_add-next c =
    let a = c.args in
    let l = c.loop-k in
    let room = appended_room a.list.now a.at a.hour a.units _ a.new.now c.requires.room.0 c.requires.room.1 l.k l.next l.list l.invariant (omega arith)
    (sym c.member_at.ensures ∙ c.if-member_at.true) in
    record { fits = omega (arith, room) }

pub loop-k-preserved : goal.loop-k-preserved
loop-k-preserved c =
    let a = c.args in
    let l = c.loop-k in
    let below : l.k < places = omega arith in
    elim c.if-member_at.branch [
      | then-member_at w ↦
          let m : member_at a.units l.k ≡ _ = sym c.member_at.ensures ∙ w.if-member_at.true in
          let read = hour_amount a.book.now (a.hour - 1) l.k below in
          rw (w.next-is)
          (appended_in a.list.now a.at a.hour a.units _ a.new.now c.requires.room.0 c.requires.room.1 l.k l.next l.list l.invariant below m _
          (w.list-is ∙ rw read w.post_unit.ensures))
      | else-member_at w ↦
          rw (w.next-is, w.list-is)
          (appended_out a.list.now a.at a.hour a.units _ a.new.now c.requires.room.0 c.requires.room.1 l.k l.next l.list l.invariant below
          (sym c.member_at.ensures ∙ w.if-member_at.false))
    ]

pub returns : goal.returns
returns c =
    let a = c.args in
    let l = c.loop-k in
    let all : l.k ≡ places = omega arith in
    appended_all a.list.now a.at a.hour a.units _ a.new.now c.requires.room.1 l.next l.list (rw all at l.invariant)
