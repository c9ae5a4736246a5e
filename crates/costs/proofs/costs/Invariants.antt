use Rattle.costs.proofs.Listing.{Listing, left}
use Rattle.costs.proofs.costs.Given as goal

abbrev pub invariant-loop-list : goal.invariant-loop-list
invariant-loop-list l = Listing l.rules l.table l.list

abbrev pub decreases-loop-list : goal.decreases-loop-list
decreases-loop-list l = left l.table l.list
