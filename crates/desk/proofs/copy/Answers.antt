-- `desk::copy` meets its contract: i entries are copied.
use native.Mathlib.Omega.{arith}
use Rattle.desk.proofs.Listing.{copy_begins, copy_goes, copy_ends}
use Rattle.desk.proofs.copy.Goals as goal

pub loop-i-init : goal.loop-i-init
loop-i-init c = copy_begins _ _

pub loop-i-preserved : goal.loop-i-preserved
loop-i-preserved c = copy_goes c.loop-i.invariant c.loop-i-test.true c.requires.fit

pub returns : goal.returns
returns c = copy_ends c.loop-i.invariant (omega arith)
