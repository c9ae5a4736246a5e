-- `pace::pace_of` meets its contract: the sum is at most 2^53, so its conversion loses nothing; every u32 is an f64.
use Rattle.pace.proofs.Passing.{pace_idle, pace_mean}
use Rattle.pace.specs.Exact.{lossless}
use Rattle.pace.proofs.pace_of.Goals as goal

pub int_to_float-result : goal.int_to_float-result
int_to_float-result c = lossless _ c.requires

pub returns-then-count-eq0 : goal.returns-then-count-eq0
returns-then-count-eq0 c = pace_idle c.args.count c.args.sum c.if-count-eq0.true

pub returns-else-count-eq0 : goal.returns-else-count-eq0
returns-else-count-eq0 c = pace_mean c.args.count c.args.sum c.if-count-eq0.false
