-- `listing::lines::Pen::edit_line` meets its contract: the parts of `edit_line`, one behind the other.
use Rattle.std.proofs.Common.{ℕ, ap}
use Rattle.grammar.specs.Listing.{ascii, field, edit_line}
use Rattle.listing.specs.Pens.{pen_as, pen_then}
use Rattle.listing.proofs.lines.Pen.edit_line.Goals as goal

pub returns : goal.returns
unfolding ascii field edit_line
returns c =
    pen_then c.kind.ensures (pen_then (pen_as c.field.ensures (ap (λ (n : ℕ). field " " n) c.from.ensures)) c.byte.ensures)
