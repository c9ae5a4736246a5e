-- `listing::lines::refused` meets its contract: the parts of `refused_line`, one behind the other.
use Rattle.std.proofs.Common.{rules, ℕ, ap, ◌∙◌, ◌++◌}
use Rattle.grammar.specs.Listing.{ascii, field, refused_line, newline}
use Rattle.listing.specs.Pens.{pen_then, pen_as, pen_written}
use Rattle.listing.specs.Writing.{put_all}
use Rattle.listing.proofs.lines.refused.Goals as goal

pub returns : goal.returns
unfolding ascii field refused_line
returns c =
    put_all
    (pen_written
    (pen_as (pen_then c.field.ensures c.byte.ensures)
    (ap (λ (n : ℕ). field "refused " n ++ newline) (c.from-2.ensures ∙ c.from.ensures)))
    c.new-pen.ensures.holds c.new-pen.ensures.begins (search rules) c.end.ensures.count)
