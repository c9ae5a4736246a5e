-- `pace::Watch::opened` meets its contract: the struct that it makes is `opened_by`'s.
use Rattle.std.proofs.Common.{refl}
use Rattle.pace.specs.Watch.{opened_by}
use Rattle.pace.proofs.Watch.opened.Goals as goal

pub returns-then-opens : goal.returns-then-opens
unfolding opened_by
returns-then-opens c = rw c.if-opens.true refl
