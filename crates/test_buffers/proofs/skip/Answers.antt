-- `test_buffers::skip` meets its contract: the passes ask for no more bytes than it passes over.
use Rattle.std.proofs.Common.{rules, ◌*◌}
use Rattle.test_buffers.proofs.Taking.{passed_more}
use Rattle.test_buffers.proofs.skip.Goals as goal

pub loop-preserved : goal.loop-preserved
loop-preserved g c =
    passed_more _ _ _ (512 * c.loop.counter) _ _ c.read_full.new.buffer c.loop.invariant c.read_full.ensures.taken (search rules)

pub returns : goal.returns
returns g c = passed_more _ _ _ (512 * c.loop.counter) _ _ _ c.loop.invariant c.read_full-2.ensures.taken (search rules)
