-- `strings::renew`: the first k lengths are taken over.
use Rattle.strings.specs.Lengths.{Renewed}
use Rattle.strings.proofs.renew.Given as goal

abbrev pub invariant-loop-k : goal.invariant-loop-k
invariant-loop-k l = Renewed l.k l.next l.initial.lengths l.lengths l.changed
