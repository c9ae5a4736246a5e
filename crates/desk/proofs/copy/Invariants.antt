use Rattle.desk.proofs.Listing.{Copied}
use Rattle.desk.proofs.copy.Given as goal

abbrev pub invariant-loop-i : goal.invariant-loop-i
invariant-loop-i l = Copied l.entries l.initial.words l.words l.i
