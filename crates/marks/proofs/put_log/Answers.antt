-- `marks::put_log` meets its contract: a log without edits is its own result.
use Rattle.std.proofs.Common.{arith}
use Rattle.marks.proofs.Copying.{log_short, log_whole}
use Rattle.marks.proofs.put_log.Goals as goal

pub returns-then-tokens-kept : goal.returns-then-tokens-kept
returns-then-tokens-kept c = log_short _ _ _ c.if-tokens-kept.true

pub returns : goal.returns
returns c = log_whole (omega (arith, c.if-tokens-kept.false)) c.copy.ensures
