use Prim.Native.Nat.{◌-◌, ◌^◌}
use Rattle.growth.specs.Along.{Reaching, Spent}
use Rattle.growth.proofs.reach.Given as goal

abbrev pub invariant-loop-reached : goal.invariant-loop-reached
invariant-loop-reached l = Reaching l.initial.feeds l.reached l.done × Spent l.initial.feeds l.done l.feeds

abbrev pub decreases-loop-reached : goal.decreases-loop-reached
decreases-loop-reached l = 2 ^ 64 - l.done
