use Rattle.std.proofs.Common.{◌<◌, ◌^◌}
use Rattle.growth.specs.Closing.{Opened, left}
use Rattle.growth.proofs.close_taking.Given as goal

abbrev pub invariant-loop-waiting : goal.invariant-loop-waiting
invariant-loop-waiting g l = Opened l.feeds l.initial.sets l.sets l.waiting × (l.waiting < 2 ^ 64)

abbrev pub decreases-loop-waiting : goal.decreases-loop-waiting
decreases-loop-waiting g l = left l.sets l.waiting
