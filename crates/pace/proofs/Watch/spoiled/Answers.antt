-- `pace::Watch::spoiled` meets its contract: the struct that it makes is `spoiled_by`'s.
use Rattle.std.proofs.Common.{refl}
use Rattle.pace.specs.Watch.{spoiled_by}
use Rattle.pace.proofs.Watch.spoiled.Goals as goal

pub returns-then-spoils : goal.returns-then-spoils
unfolding spoiled_by
returns-then-spoils c = rw c.if-spoils.true refl
