-- `exports::odhrashup_pace` meets its contract: by the report, idle or with its mean, or the refusal.
use Rattle.std.proofs.Common.{refl}
use Rattle.exports.proofs.Answering.{paces, paces_not, over_zeros}
use Rattle.exports.proofs.odhrashup_pace.Goals as goal

pub returns-in-Ok : goal.returns-in-Ok
returns-in-Ok c =
    paces c.in-Ok.ensures c.put_report.ensures.status c.put_report.ensures.counts c.put_report.ensures.mean

pub returns-in-Err : goal.returns-in-Err
returns-in-Err c =
    paces_not c.in-Err.ensures c.refused.ensures.status c.refused.ensures.counts (over_zeros _ c.fit.ensures refl)
