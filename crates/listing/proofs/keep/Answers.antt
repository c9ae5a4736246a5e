-- `listing::keep` meets its contract: a pen writes the part behind the bytes kept so far.
use Rattle.std.proofs.Common.{rules}
use Rattle.listing.specs.Pens.{pen_written}
use Rattle.listing.proofs.keep.Goals as goal

pub returns : goal.returns
returns c = pen_written c.text.ensures c.new-pen.ensures.holds c.new-pen.ensures.begins (search rules) c.end.ensures.count
