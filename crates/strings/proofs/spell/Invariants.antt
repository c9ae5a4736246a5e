use Rattle.strings.specs.Work.{Spelling, steps_left}
use mathlib.Core.Path.{◌≡◌}
use lib.ListN.{length}
use Rattle.strings.proofs.spell.Given as goal

abbrev pub invariant-loop-left : goal.invariant-loop-left
invariant-loop-left l = (length l.tokens ≡ length l.initial.tokens) × Spelling l.table l.depth l.symbol l.raise l.initial.tokens l.at l.stack l.h l.left l.tokens l.end

abbrev pub decreases-loop-left : goal.decreases-loop-left
decreases-loop-left l = steps_left l.table l.depth l.stack l.h l.left
