use lib.ListN.{take}
use Rattle.spelling.specs.Answer.{Took}
use Rattle.spelling.proofs.take.Given as goal

abbrev pub invariant-loop-byte : goal.invariant-loop-byte
invariant-loop-byte l = Took l.initial.reached (take l.byte-index l.part) l.initial.words l.reached l.words
