-- `mentions::put_plain` meets its contract.
use Rattle.mentions.specs.Putting.{plain_none, plain_one}
use Rattle.mentions.proofs.put_plain.Goals as goal

pub returns-then-named-eq0 : goal.returns-then-named-eq0
returns-then-named-eq0 c = plain_one c.put.ensures c.if-named-eq0.true

pub returns-else-named-eq0 : goal.returns-else-named-eq0
returns-else-named-eq0 c = plain_none c.if-named-eq0.false
