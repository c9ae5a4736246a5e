-- `marks::copy` meets its contract: word by word, the part stands in the buffer.
use Rattle.std.proofs.Common.{sym}
use Rattle.base.specs.Written.{written_none}
use Rattle.marks.proofs.Copying.{copied_more}
use Rattle.marks.proofs.copy.Goals as goal

pub loop-i-init : goal.loop-i-init
loop-i-init c = sym (written_none c.args.tokens.now c.args.at)

pub loop-i-preserved : goal.loop-i-preserved
loop-i-preserved c = copied_more c.args.part.now c.args.tokens.now c.args.at c.loop-i.i c.requires c.loop-i-test.true c.loop-i.invariant
