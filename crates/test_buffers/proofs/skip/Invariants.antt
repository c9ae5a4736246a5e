-- So many bytes at most were taken as the passes ask for.
use Rattle.std.proofs.Common.{◌*◌}
use Rattle.test_buffers.specs.Input.{Passed}
use Rattle.test_buffers.proofs.skip.Given as goal

abbrev pub invariant-loop : goal.invariant-loop
invariant-loop g l = Passed (g.R.Read.remaining l.initial.reader) (g.R.Read.remaining l.reader) (512 * l.counter)
