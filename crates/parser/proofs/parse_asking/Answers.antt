-- `parser::parse_asking` meets its contract: it is `parse_tabled` with tables that were just made.
use Rattle.parser.specs.Parses.{lent_made}
use Rattle.parser.proofs.parse_asking.Goals as goal

pub parse_tabled-requires : goal.parse_tabled-requires
parse_tabled-requires c = lent_made
