use Rattle.file.proofs.Zeros.{Joined}
use Rattle.file.proofs.all_zero.Given as goal

abbrev pub invariant-loop-byte : goal.invariant-loop-byte
invariant-loop-byte l = Joined l.bytes l.byte-index l.all
