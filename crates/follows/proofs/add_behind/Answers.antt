-- `follows::add_behind` meets its contract: a terminal has no set.
use Rattle.follows.specs.Feeding.{AddedBehind}
use Rattle.follows.proofs.add_behind.Goals as goal

pub returns : goal.returns
returns c = AddedBehind.nonterminal c.if-x-lt64.false (rw c.from.ensures at c.add_to.ensures)
