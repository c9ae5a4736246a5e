-- `pace::marks_of` meets its contract: each field is the word that it is named for.
use Rattle.pace.proofs.Watching.{marks_same}
use Rattle.pace.proofs.marks_of.Goals as goal

pub returns : goal.returns
returns c = marks_same c.opening.ensures c.closing.ensures c.restart.ensures
