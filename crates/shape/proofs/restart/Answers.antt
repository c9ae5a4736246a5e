-- `shape::restart` meets its contract: words with the shape are long enough.
use native.Mathlib.Omega.{arith}
use Rattle.shape.proofs.Reading.{front_inside}
use Rattle.shape.proofs.restart.Goals as goal

pub restart_word-requires : goal.restart_word-requires
restart_word-requires c = omega (arith, front_inside _ c.requires)
