-- `mark_lines::lines::listed` meets its contract: the lines of the marks, and the last behind them (`putting_last`).
use Rattle.std.proofs.Common.{arith, rules}
use Rattle.listing.specs.Pens.{pen_written}
use Rattle.listing.specs.Writing.{put_all}
use Rattle.mark_lines.specs.Sizes.{listing_length}
use Rattle.mark_lines.proofs.Putting.{putting_last}
use Rattle.mark_lines.proofs.lines.listed.Goals as goal

pub returns : goal.returns
returns c = record {
  wrote =
      put_all
      (pen_written
      (putting_last c.args.words.now c.args.log.now c.args.ticks.now c.put_marks.ensures c.added_in.ensures c.put_last.ensures)
      c.new-pen.ensures.holds c.new-pen.ensures.begins (search rules) c.end.ensures.count);
  words_len_bound = listing_length c.args.log.now c.args.ticks.now (λ i. omega (arith, c.type_inv.log i))
      (λ i. omega (arith, c.type_inv.ticks i)) c.args.words.now
      (λ i. omega (arith, c.type_inv.words i)) (omega arith);
}
