-- `pace::Watch::passed` meets its contract: its three steps are `step_by`'s.
use Rattle.std.proofs.Common.{sym, subst}
use Rattle.pace.specs.Watch.{Small, step_by, passed_by}
use Rattle.pace.proofs.Passing.{small_spoiled}
use Rattle.pace.proofs.Watch.passed.Goals as goal

pub closed-requires : goal.closed-requires
closed-requires c = subst Small (sym c.spoiled.ensures) (small_spoiled _ c.args.self c.requires)

pub returns : goal.returns
unfolding passed_by step_by
returns c = cc
