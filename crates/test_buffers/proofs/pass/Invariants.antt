-- At most what is not left was passed over.
use Rattle.std.proofs.Common.{◌≤◌, ◌-◌}
use Rattle.test_buffers.specs.Input.{Passed}
use Rattle.test_buffers.proofs.pass.Given as goal

abbrev pub invariant-loop : goal.invariant-loop
invariant-loop g l = (l.left ≤ l.count) × Passed (g.R.Read.remaining l.initial.reader) (g.R.Read.remaining l.reader) (l.count - l.left)
