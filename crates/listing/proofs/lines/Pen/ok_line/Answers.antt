-- `listing::lines::Pen::ok_line` meets its contract: the parts of `ok_line`, one behind the other.
use Rattle.grammar.specs.Listing.{ascii, field, ok_line}
use Rattle.listing.specs.Pens.{pen_then}
use Rattle.listing.proofs.lines.Pen.ok_line.Goals as goal

pub returns : goal.returns
unfolding ascii field ok_line
returns c =
    pen_then c.field.ensures
    (pen_then c.field-2.ensures
    (pen_then c.field-3.ensures (pen_then c.field-4.ensures c.byte.ensures)))
