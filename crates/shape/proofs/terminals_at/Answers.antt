-- `shape::terminals_at` meets its contract: words with the shape are long enough.
use native.Mathlib.Omega.{arith}
use Rattle.shape.proofs.Reading.{front_inside}
use Rattle.shape.proofs.terminals_at.Goals as goal

pub header_size-requires : goal.header_size-requires
header_size-requires c = omega (arith, front_inside _ c.requires)
