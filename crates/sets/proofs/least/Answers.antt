-- Below the lowest bit stand as many zeros as its number says.
use Rattle.std.proofs.Common.{arith}
use Rattle.sets.specs.Taking.{least_of}
use Rattle.sets.proofs.least.Goals as goal

pub overflow_cast-result : goal.overflow_cast-result
overflow_cast-result c =
    let at = least_of c.args.s c.requires c.ranges.s.fits in record { fits = omega (arith, at.below) }

pub returns : goal.returns
returns c = least_of c.args.s c.requires c.ranges.s.fits
