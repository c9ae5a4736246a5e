-- `shape::terminal_count` meets its contract: words with the shape are long enough.
use native.Mathlib.Omega.{arith}
use Rattle.shape.proofs.Reading.{front_inside}
use Rattle.shape.proofs.terminal_count.Goals as goal

pub terminals-requires : goal.terminals-requires
terminals-requires c = omega (arith, front_inside _ c.requires)
