-- `growth::feed` meets its contract: a mask without members adds nothing; any other is added to all but the rest. The measure is the rest.
use Rattle.std.proofs.Common.{arith}
use Rattle.sets.specs.Taking.{without_less}
use Rattle.growth.specs.Closing.{feed_none, feed_goes}
use Rattle.growth.proofs.feed.Goals as goal

pub returns-then-mask-eq0 : goal.returns-then-mask-eq0
returns-then-mask-eq0 c = feed_none _ _ c.if-mask-eq0.true

pub loop-rest-smaller : goal.loop-rest-smaller
loop-rest-smaller c = omega (arith, without_less _ _ c.least-j.ensures.held, c.without-rest.ensures)

pub loop-rest-preserved : goal.loop-rest-preserved
loop-rest-preserved c =
    rw c.without-rest.ensures
    (feed_goes c.loop-rest.invariant c.least-j.ensures (rw c.from.ensures at c.add_to-more.ensures) c.note-grown.ensures)
