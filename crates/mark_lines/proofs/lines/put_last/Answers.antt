-- `mark_lines::lines::put_last` meets its contract: the parts of `marks_line`, one behind the other.
use Rattle.grammar.specs.Listing.{ascii, field}
use Rattle.grammar.specs.MarkLines.{marks_line}
use Rattle.listing.specs.Pens.{pen_then}
use Rattle.mark_lines.proofs.lines.put_last.Goals as goal

pub returns : goal.returns
unfolding ascii field marks_line
returns c = pen_then c.field.ensures (pen_then c.field-2.ensures c.byte.ensures)
