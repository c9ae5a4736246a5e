use Rattle.strings.specs.Gathering.{Gathered}
use Rattle.strings.specs.Gathering.{Gathered}
use Prim.Native.Nat.{◌-◌, ◌≤◌}
use Rattle.strings.proofs.gather.Given as goal

abbrev pub invariant-loop-k : goal.invariant-loop-k
invariant-loop-k l = (l.k ≤ l.count) × Gathered l.k l.prices l.sides l.initial.table l.table

abbrev pub decreases-loop-k : goal.decreases-loop-k
decreases-loop-k l = l.count - l.k
