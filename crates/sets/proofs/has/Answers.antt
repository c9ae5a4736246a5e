-- By the definition of `member`.
use Rattle.std.proofs.Common.{refl}
use Rattle.sets.specs.Bits.{member}
use Rattle.sets.proofs.has.Goals as goal

pub returns : goal.returns
unfolding member
returns c = refl
