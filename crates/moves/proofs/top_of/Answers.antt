-- `moves::top_of` meets its contract: a lowest byte that is not 0 is the top.
use mathlib.Core.Path.{◌∙◌}
use Rattle.moves.specs.Windows.{seen_top}
use Rattle.moves.proofs.top_of.Goals as goal

pub returns-else-symbol-eq0 : goal.returns-else-symbol-eq0
returns-else-symbol-eq0 c = c.lowest-symbol.ensures ∙ seen_top c.requires (λ e. c.if-symbol-eq0.false (c.lowest-symbol.ensures ∙ e))
