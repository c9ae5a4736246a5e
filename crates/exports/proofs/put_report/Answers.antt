-- `exports::put_report` meets its contract: two counts, and the mean or NaN.
use Rattle.std.proofs.Common.{sym, ap, ◌∙◌, [], ◌∷◌}
use lib.Ieee.{Float}
use Rattle.exports.specs.Status.{pace_float, pace_status}
use Rattle.exports.proofs.Answering.{no_number, over_zeros}
use Rattle.exports.proofs.put_report.Goals as goal

pub returns-in-Mean-clause-status : goal.returns-in-Mean-clause-status
unfolding pace_status
returns-in-Mean-clause-status c = sym (ap pace_status c.in-Mean.is)

pub returns-in-Mean-clause-mean : goal.returns-in-Mean-clause-mean
unfolding pace_float
returns-in-Mean-clause-mean c =
    over_zeros _ c.fit-in-Mean.ensures (ap (λ (x : Float). x ∷ []) (sym (ap pace_float c.in-Mean.is)))

pub returns-in-Idle-clause-status : goal.returns-in-Idle-clause-status
unfolding pace_status
returns-in-Idle-clause-status c = sym (ap pace_status c.in-Idle.is)

pub returns-in-Idle-clause-mean : goal.returns-in-Idle-clause-mean
unfolding pace_float
returns-in-Idle-clause-mean c =
    over_zeros _ c.fit-in-Idle.ensures (ap (λ (x : Float). x ∷ []) (no_number ∙ sym (ap pace_float c.in-Idle.is)))
