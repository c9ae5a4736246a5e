-- `pace::time` meets its contract: the wrapping difference is `wrapped`'s.
use Rattle.std.proofs.Common.{arith}
use Rattle.grammar.specs.Pace.{wrapped}
use Rattle.pace.proofs.time.Goals as goal

pub returns : goal.returns
unfolding wrapped
returns c = omega arith
