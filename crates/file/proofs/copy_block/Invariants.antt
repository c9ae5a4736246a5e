use Rattle.file.proofs.Copying.{BlockCopied}
use Rattle.file.proofs.copy_block.Given as goal

abbrev pub invariant-loop-i : goal.invariant-loop-i
invariant-loop-i l = BlockCopied l.block l.initial.words l.words 4 l.at l.i
