use Rattle.writer.proofs.Putting.{WordsPut}
use Rattle.writer.proofs.put_words.Given as goal

abbrev pub invariant-loop-i : goal.invariant-loop-i
invariant-loop-i l = WordsPut l.words l.initial.bytes l.bytes l.at l.i
