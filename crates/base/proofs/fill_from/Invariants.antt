-- The invariant is `Clearing`.
use Rattle.base.specs.Clearing.{Clearing}
use Rattle.base.proofs.fill_from.Given as goal

abbrev pub invariant-loop-i : goal.invariant-loop-i
invariant-loop-i g l = Clearing l.value l.initial.buffer l.from l.buffer l.i
