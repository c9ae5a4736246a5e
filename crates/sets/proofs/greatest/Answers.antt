-- Above the highest bit stand as many zeros as its number leaves.
use Rattle.std.proofs.Common.{arith}
use Rattle.sets.specs.Taking.{greatest_of}
use Rattle.sets.proofs.greatest.Goals as goal

pub overflow_cast-result : goal.overflow_cast-result
overflow_cast-result c = record { fits = omega (arith, (greatest_of c.args.s c.requires c.ranges.s.fits).0) }

pub overflow_sub-result : goal.overflow_sub-result
overflow_sub-result c = omega (arith, (greatest_of c.args.s c.requires c.ranges.s.fits).0)

pub returns : goal.returns
returns c = (greatest_of c.args.s c.requires c.ranges.s.fits).1
