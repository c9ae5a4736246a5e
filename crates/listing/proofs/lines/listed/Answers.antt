-- `listing::lines::listed` meets its contract: the first line, the edit lines and the last, one behind the other.
use Rattle.std.proofs.Common.{arith, rules}
use Rattle.listing.specs.Sizes.{listing_length}
use Rattle.grammar.specs.Listing.{listing}
use Rattle.listing.specs.Pens.{pen_then, pen_written}
use Rattle.listing.specs.Writing.{put_all}
use Rattle.listing.proofs.lines.listed.Goals as goal

pub returns : goal.returns
unfolding listing
returns c = record {
  wrote =
      put_all
      (pen_written (pen_then c.ok_line.ensures (pen_then c.edit_lines.ensures c.pace_line.ensures.penned))
      c.new-pen.ensures.holds c.new-pen.ensures.begins (search rules) c.end.ensures.count);
  report_len_bound = listing_length _ c.args.counts c.args.edits.now c.args.report (search rules)
      (record { moves = omega arith; records = omega arith; listed = omega arith })
      c.pace_line.ensures.pace_len_bound
      (λ i. omega (arith, c.type_inv.edits i));
}
