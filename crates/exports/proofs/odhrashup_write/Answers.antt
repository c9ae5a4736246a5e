-- `exports::odhrashup_write` meets its contract: one count over blank cells, or blank cells.
use Rattle.exports.proofs.Answering.{answers, refuses}
use Rattle.exports.proofs.odhrashup_write.Goals as goal

pub returns-in-Ok : goal.returns-in-Ok
returns-in-Ok c = answers _ c.in-Ok.ensures c.accepted.ensures.status c.accepted.ensures.counts

pub returns-in-Err : goal.returns-in-Err
returns-in-Err c = refuses _ c.in-Err.ensures c.refused.ensures.status c.refused.ensures.counts
