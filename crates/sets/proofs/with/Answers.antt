-- No bit of 1 is shifted out.
use Rattle.std.proofs.Common.{ap}
use Rattle.std.specs.Int.Bits.{bit_or}
use Rattle.sets.specs.Operations.{with}
use Rattle.sets.specs.Taking.{shifted}
use Rattle.sets.proofs.with.Goals as goal

pub returns : goal.returns
unfolding with
returns c = ap (bit_or c.args.s) (shifted c.args.i c.requires)
