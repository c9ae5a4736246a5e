-- `listing::lines::Pen::pace_line` meets its contract: by the cases of `pace_line`.
use mathlib.Core.Path.{sym, ap}
use Rattle.grammar.specs.Listing.{ascii, field, pace_line}
use Rattle.listing.specs.Sizes.{pace_length, pace_idle}
use Rattle.listing.specs.Pens.{pen_then, pen_as}
use native.Mathlib.Omega.{arith}
use Rattle.listing.proofs.lines.Pen.pace_line.Goals as goal

pub returns-in-Idle : goal.returns-in-Idle
unfolding ascii field pace_line
returns-in-Idle c = record {
  penned = pen_as (pen_then c.text.ensures c.byte.ensures) (ap (pace_line _ _) (sym c.in-Idle.is));
  pace_len_bound = pace_idle _ _ c.in-Idle.is;
}

pub returns-in-Mean : goal.returns-in-Mean
unfolding ascii field pace_line
returns-in-Mean c = record {
  penned = pen_as (pen_then c.field.ensures (pen_then c.field-in-Mean.ensures c.byte-in-Mean.ensures))
      (ap (pace_line _ _) (sym c.in-Mean.is));
  pace_len_bound = pace_length c.args.report.count c.args.report.sum c.args.report.pace (omega arith) (omega arith);
}
