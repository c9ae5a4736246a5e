use Rattle.mark_lines.proofs.Putting.{Putting}
use Rattle.mark_lines.proofs.lines.put_marks.Given as goal

abbrev pub invariant-loop-word : goal.invariant-loop-word
invariant-loop-word l = Putting l.initial.pen l.words l.log l.ticks l.pen l.word-index
