-- `shape::end_right` meets its contract: the header has at most seven words.
use Rattle.std.proofs.Common.{arith}
use Rattle.shape.proofs.Judging.{size_small}
use Rattle.shape.proofs.end_right.Goals as goal

pub overflow_add-at : goal.overflow_add-at
overflow_add-at c = omega (arith, size_small c.args.words.now c.header_size-at.ensures)
