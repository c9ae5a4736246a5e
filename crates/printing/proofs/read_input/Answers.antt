-- `printing::read_input` meets its contract: no more is kept than the room holds, and what is kept is what the reader had.
use Rattle.std.proofs.Common.{arith, rules}
use Rattle.printing.proofs.Keeping.{stored_nothing, stored_more}
use Rattle.printing.proofs.read_input.Goals as goal

pub loop-init : goal.loop-init
loop-init g c = record { within = omega arith; stored = stored_nothing _ _ }

pub loop-preserved : goal.loop-preserved
loop-preserved g c =
    record { within = c.keep-size.ensures.within; stored = stored_more _ _ _ c.keep-size.ensures (search rules) c.loop.invariant.stored }
