-- One total more at a time, behind the other tables.
-- Assumes nothing.
use Rattle.std.proofs.Common.{◌≡◌, refl, sym, ap, ◌∙◌, ℕ, arith}
use Rattle.decimal.specs.Output.{written}
use Rattle.decimal.specs.Writer.{held}
use Rattle.decimal.proofs.Laws.{then}
use Rattle.listing.specs.Listing.{joined}
use Rattle.listing.proofs.Joined.{none_joined, joined_more}
use Rattle.entries.specs.Tables.{tables}
use Rattle.daybook.specs.Replay.{course, listed_total, last_tables}
use Rattle.daybook.proofs.Replay.put_last_tables.Goals as goal

pub loop-n-init : goal.loop-n-init
loop-n-init c = record { same_buffer = refl; bytes_after = sym (none_joined _ _) }

pub loop-n-preserved : goal.loop-n-preserved
loop-n-preserved c =
    let r = c.args.self.now in
    joined_more c.loop-n.n (listed_total r.accounts.sheet.now (course r)) c.put_tables.new.out c.loop-n.out c.put_total.new.out c.loop-n.invariant c.put_total.ensures

pub returns : goal.returns
unfolding last_tables
returns c =
    let r = c.args.self.now in
    let o = held c.put_tables.new.out in
    let totals = listed_total r.accounts.sheet.now (course r) in
    let all : c.loop-n.n ≡ 40 = omega (arith, c.loop-n-test.false) in
    let w = c.loop-n.invariant in record {
      same_buffer = w.same_buffer ∙ c.put_tables.ensures.same_buffer;
      bytes_after = then (held c.args.out.now) o (tables r.accounts.sheet.now.units r.accounts.book) (joined 40 totals) c.put_tables.ensures.bytes_after
          (w.bytes_after ∙ ap (λ (n : ℕ). written o (joined n totals)) all);
    }
