-- `mark_lines::show` meets its contract: the bytes kept decide the lines of the whole input.
use mathlib.Core.Path.{sym}
use lib.Seq.{length-take-le}
use Rattle.mark_lines.specs.Shown.{marks_shown_whole}
use Rattle.mark_lines.proofs.show.Goals as goal

pub slice_bounds-show_input-end : goal.slice_bounds-show_input-end
slice_bounds-show_input-end c = sym (length-take-le _ _ c.requires.size_in_bounds)

pub returns : goal.returns
returns c = marks_shown_whole c.requires.in_bounds c.requires.size_in_bounds c.show_input.ensures
