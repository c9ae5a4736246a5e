-- `file::copy_block` meets its contract: the first i words are copied (`BlockCopied`).
use native.Mathlib.Omega.{arith}
use Rattle.file.proofs.Copying.{block_ends, block_begins, block_goes}
use Rattle.file.proofs.copy_block.Goals as goal

pub loop-i-init : goal.loop-i-init
loop-i-init c = block_begins _ _ _ _

pub loop-i-preserved : goal.loop-i-preserved
loop-i-preserved c = block_goes c.loop-i.invariant (omega arith) c.pair.ensures

pub returns : goal.returns
returns c = record {
  value = omega arith;
  words_after = block_ends c.loop-i.invariant (omega arith);
}
