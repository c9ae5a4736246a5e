-- `exports::odhrashup_check` meets its contract: 0, or the number of the verdict's refusal.
use Rattle.exports.proofs.Answering.{accepts, rejects}
use Rattle.exports.proofs.odhrashup_check.Goals as goal

pub returns-in-Ok : goal.returns-in-Ok
returns-in-Ok c = accepts c.in-Ok.ensures

pub returns-in-Err : goal.returns-in-Err
returns-in-Err c = rejects c.in-Err.ensures c.from.ensures
