-- By `decimal_one` and `decimal_more`. The measure is the number.
use Rattle.std.proofs.Common.{sym}
use Rattle.listing.specs.Pens.{pen_as, pen_then}
use Rattle.listing.proofs.Numbers.{decimal_one, decimal_more}
use Rattle.listing.proofs.lines.Pen.+decimal.Goals as goal

pub returns-then-n-lt10 : goal.returns-then-n-lt10
returns-then-n-lt10 t c = pen_as c.byte.ensures (sym (decimal_one _ c.if-n-lt10.true))

pub returns : goal.returns
returns t c = pen_as (pen_then c.decimal.ensures c.byte-2.ensures) (sym (decimal_more _ c.if-n-lt10.false))
