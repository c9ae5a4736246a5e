use Rattle.costs.proofs.Beginning.{Filled}
use Rattle.costs.proofs.begin_terminals.Given as goal

abbrev pub invariant-loop-t : goal.invariant-loop-t
invariant-loop-t l = Filled l.rules l.t l.table
