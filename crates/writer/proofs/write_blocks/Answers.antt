-- `writer::write_blocks` meets its contract: the blocks in front of k are written (`BlocksPut`).
use native.Mathlib.Omega.{arith}
use Rattle.writer.proofs.Putting.{blocks_begin, blocks_end_lem, blocks_lent, blocks_go}
use Rattle.writer.proofs.write_blocks.Goals as goal

pub loop-k-init : goal.loop-k-init
loop-k-init c = blocks_begin _ _ c.requires.bytes_value

pub write_block-requires : goal.write_block-requires
write_block-requires c = record {
  k_bound = omega arith;
  k_in_bounds = omega arith;
  k_in_bounds_2 = omega arith;
  bytes_value = blocks_lent c.loop-k.invariant;
}

pub loop-k-preserved : goal.loop-k-preserved
loop-k-preserved c = blocks_go c.loop-k.invariant c.write_block.auto.bytes c.write_block.ensures

pub returns : goal.returns
returns c = blocks_end_lem c.loop-k.invariant (omega arith)
