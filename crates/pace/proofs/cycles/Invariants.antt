use Rattle.std.proofs.Common.{◌≡◌}
use Rattle.pace.specs.Watch.{marks_of}
use Rattle.pace.proofs.Watching.{Watching}
use Rattle.pace.proofs.cycles.Given as goal

abbrev pub invariant-loop-place : goal.invariant-loop-place
invariant-loop-place l = (l.marks ≡ marks_of l.words) × Watching l.words l.log l.ticks l.edits l.records l.watch l.at l.place
