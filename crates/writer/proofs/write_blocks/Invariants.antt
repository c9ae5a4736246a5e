use lib.ListN.{length}
use Rattle.writer.proofs.Putting.{BlocksPut}
use Rattle.writer.proofs.write_blocks.Given as goal

abbrev pub invariant-loop-k : goal.invariant-loop-k
invariant-loop-k l = BlocksPut l.words (length l.initial.bytes) l.bytes l.k
