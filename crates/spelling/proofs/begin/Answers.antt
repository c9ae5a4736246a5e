-- `spelling::begin` meets its contract: of a text without bytes nothing is known but that it is passed.
use Rattle.spelling.specs.Steps.{told_nothing}
use Rattle.spelling.proofs.begin.Goals as goal

pub returns : goal.returns
returns c = told_nothing
