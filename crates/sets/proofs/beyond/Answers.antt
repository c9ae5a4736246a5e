-- The bits of the complement are those that b lacks.
use Rattle.std.proofs.Common.{rules}
use Rattle.sets.specs.Taking.{beyond_of}
use Rattle.sets.proofs.beyond.Goals as goal

pub returns : goal.returns
returns c = beyond_of _ _ (search rules) (search rules)
