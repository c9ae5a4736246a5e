-- `verdict::check` meets its contract: it is `priced` with a table that was just made.
use Rattle.base.specs.Blank.{blank_made}
use Rattle.verdict.proofs.check.Goals as goal

pub priced-requires : goal.priced-requires
priced-requires c = blank_made 192
