-- `making::read_text` meets its contract: state and buffer are those of all parts up to the end.
use Rattle.std.proofs.Common.{rules}
use Rattle.making.proofs.Going.{gone_further}
use Rattle.making.proofs.read_text.Goals as goal

pub loop-preserved : goal.loop-preserved
loop-preserved g c =
    gone_further _ _ _ c.take-state.ensures (search rules) c.loop.invariant
