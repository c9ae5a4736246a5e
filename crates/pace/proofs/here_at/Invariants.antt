use Rattle.std.proofs.Common.{◌-◌}
use Rattle.pace.proofs.Looking.{Looked}
use Rattle.pace.proofs.here_at.Given as goal

abbrev pub invariant-loop-deleted : goal.invariant-loop-deleted
invariant-loop-deleted l = Looked l.edits l.records l.at l.place l.behind l.deleted

abbrev pub decreases-loop-deleted : goal.decreases-loop-deleted
decreases-loop-deleted l = l.records - l.behind
