-- The sum is that of the cells passed, below the modulus, so that the next product fits.
use Rattle.std.proofs.Common.{◌≡◌, ◌<◌, map}
use Rattle.test_buffers.specs.Digest.{digest_of}
use Rattle.test_buffers.proofs.digest.Given as goal

abbrev pub invariant-loop-cell : goal.invariant-loop-cell
invariant-loop-cell g l = (l.sum < 4294967291) × (l.sum ≡ digest_of (map g.T.Cell.value l.buffer) l.cell-index)
