use Rattle.std.proofs.Common.{arith}
use Rattle.base.specs.Clearing.{clearing_begins, clearing_more, clearing_ends}
use Rattle.base.proofs.fill_from.Goals as goal

pub loop-i-init : goal.loop-i-init
loop-i-init g c = clearing_begins _ _ _

pub loop-i-preserved : goal.loop-i-preserved
loop-i-preserved g c = clearing_more _ c.loop-i.invariant (omega (arith, c.loop-i.invariant.same, c.loop-i-test.true))

pub returns : goal.returns
returns g c = clearing_ends _ c.loop-i.invariant (omega (arith, c.loop-i.invariant.same, c.loop-i-test.false))
