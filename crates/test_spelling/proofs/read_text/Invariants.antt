-- A part is at least one byte and at most 64. The measure is what is left of the text.
use Rattle.std.proofs.Common.{◌≤◌}
use Rattle.test_spelling.proofs.read_text.Given as goal

abbrev pub invariant-loop-left : goal.invariant-loop-left
invariant-loop-left g l = (1 ≤ l.part) × (l.part ≤ 64)

abbrev pub decreases-loop-left : goal.decreases-loop-left
decreases-loop-left g l = l.left
