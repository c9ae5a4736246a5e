use Rattle.strings.specs.Lengths.{Rounded}
use Rattle.strings.proofs.round.Given as goal

abbrev pub invariant-loop-k : goal.invariant-loop-k
invariant-loop-k l = Rounded l.table l.k l.lengths l.initial.next l.next
