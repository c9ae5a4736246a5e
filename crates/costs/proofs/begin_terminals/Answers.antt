-- `costs::begin_terminals` meets its contract: the terminals in front of t have their costs.
use Rattle.costs.proofs.Beginning.{terminals_begin}
use Rattle.costs.proofs.begin_terminals.Goals as goal

pub loop-t-init : goal.loop-t-init
loop-t-init c = terminals_begin _ c.requires
