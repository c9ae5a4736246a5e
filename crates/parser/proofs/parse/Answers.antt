-- `parser::parse` meets its contract: it is `parse_asking`, which asks nothing more.
use mathlib.Core.Path.{refl}
use Rattle.parser.specs.Parses.{parsed_plain}
use Rattle.parser.proofs.parse.Goals as goal

pub returns : goal.returns
returns c = parsed_plain refl refl c.parse_asking.ensures
