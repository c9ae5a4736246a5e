-- As many bits of 64 ones are left as are not shifted out.
use Rattle.sets.specs.Taking.{below_of}
use Rattle.sets.proofs.below.Goals as goal

pub returns : goal.returns
returns c = below_of c.args.n c.requires.n_bound
