-- `listing::lines::Pen::field` meets its contract: the word, then the number.
use Rattle.listing.specs.Pens.{pen_then}
use Rattle.listing.proofs.lines.Pen.field.Goals as goal

pub returns : goal.returns
returns c = pen_then c.text.ensures c.decimal.ensures
