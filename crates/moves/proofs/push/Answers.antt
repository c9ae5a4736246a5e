-- `moves::push` meets its contract: the first i words are copied. The measure is what is left of the eight.
use native.Mathlib.Omega.{arith}
use Rattle.moves.specs.Push.{pushing_none, pushing_more, pushed}
use Rattle.moves.proofs.push.Goals as goal

pub loop-i-init : goal.loop-i-init
loop-i-init c = (omega arith, pushing_none _ _ _ _)

pub bounds-stack-at : goal.bounds-stack-at
bounds-stack-at c = omega (arith, c.loop-i.invariant.1.size)

pub loop-i-preserved : goal.loop-i-preserved
loop-i-preserved c = (omega arith, pushing_more _ _ _ _ _ _ (omega arith) c.loop-i.invariant.1)

pub shape_of-stack : goal.shape_of-stack
shape_of-stack c = c.loop-i.invariant.1.size

pub returns : goal.returns
returns c = pushed (omega arith) c.loop-i.invariant.1
