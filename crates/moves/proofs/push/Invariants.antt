use Prim.Native.Nat.{◌≤◌}
use Rattle.moves.specs.Push.{Pushing}
use Rattle.moves.proofs.push.Given as goal

abbrev pub invariant-loop-i : goal.invariant-loop-i
invariant-loop-i l = (l.i ≤ 8) × Pushing l.rows l.from l.initial.stack l.at l.stack l.i
