-- `test_buffers::pass` meets its contract: a read that came passes over as much, and one that a signal interrupted took nothing.
use Rattle.std.proofs.Common.{rules, ◌-◌}
use Rattle.test_buffers.proofs.Taking.{passed_more, passed_kept}
use Rattle.test_buffers.proofs.pass.Goals as goal
use Rattle.test_buffers.proofs.pass.Goals.{in-Ok, in-Err}

pub loop-preserved : goal.loop-preserved
loop-preserved g c =
    elim c.match-read.branch [
      | in-Ok w ↦ (search rules, passed_more _ _ _ (c.args.count - c.loop.left) _ _ c.read.new.buf c.loop.invariant.1 w.in-Ok.ensures.bytes.0 (search rules))
      | in-Err w ↦ (search rules, passed_kept _ _ _ c.loop.invariant.1 w.in-Err.ensures.bytes (search rules))
    ]
