-- The loop's invariant: the entries passed are stored.
-- Assumes nothing.
use Rattle.std.proofs.Common.{◌≡◌, sym, ap, ◌∙◌, suc, ◌+◌, ℕ, get_or, arith}
use Rattle.state.proofs.Entries.{read_within}
use Rattle.exports.specs.Exports.{put}
use Rattle.exports.proofs.Put.{put_next, put_none}
use Rattle.exports.proofs.store_all.Goals as goal

pub loop-k-init : goal.loop-k-init
loop-k-init g c = λ none. sym (put_none _ _ _)

pub loop-k-preserved : goal.loop-k-preserved
loop-k-preserved g c = λ none.
    let l = c.loop-k in
    let n : l.k + 1 ≡ suc l.k = omega arith in
    let read = read_within c.args.list.now l.k c.index-list-k.result none (omega (arith, c.loop-k-test.true)) in
    c.store.ensures ∙ put_next _ l.out _ (λ j. get_or c.args.list.now j none) l.k _ _ (l.invariant none) read n

pub returns : goal.returns
returns g c = λ none.
    let l = c.loop-k in
    let a = c.args in
    let all : l.k ≡ g.row.N = omega arith in
    l.invariant none ∙ ap (λ (k : ℕ). put a.out.now a.from (λ j. get_or a.list.now j none) k) all
