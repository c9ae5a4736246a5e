use lib.ListN.{length}
use Rattle.file.proofs.Copying.{BlocksCopied}
use Rattle.file.proofs.copy_blocks.Given as goal

abbrev pub invariant-loop-block : goal.invariant-loop-block
invariant-loop-block l = BlocksCopied l.bytes l.initial.words l.words l.at (length l.yielded)
