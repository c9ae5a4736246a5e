-- `desk::costs` meets its contract: both buffers are clear when the words are judged, and stay so where they are refused.
use Rattle.grammar.specs.Theory.Fills.{lent_clear}
use Rattle.std.proofs.lemmas.Result.{err_from_is_err_and}
use Rattle.std.proofs.Common.{arith, length, rules}
use Rattle.std.proofs.lemmas.Grind.{common_steps}
use Rattle.base.specs.Blank.{blank_made}
use Rattle.verdict.specs.Answer.{verdict_in}
use Rattle.desk.proofs.Listing.{zeros, unchecked, as_lent}
use Rattle.desk.proofs.costs.Goals as goal

pub priced-requires : goal.priced-requires
priced-requires c = blank_made 192

pub list-requires : goal.list-requires
list-requires c =
    record {
      accepts = verdict_in c.priced.ensures c.in_ok-priced.was;
      priced = c.priced.ensures.known c.in_ok-priced.was;
      costs_clear = lent_clear {room = length c.args.costs.now} (search rules) (zeros _ (grind (arith, common_steps)));
      rules_clear = lent_clear {room = length c.args.rules.now} (search rules) (zeros _ (grind (arith, common_steps)));
    }

pub returns-in_err-priced : goal.returns-in_err-priced
returns-in_err-priced c =
    let p = err_from_is_err_and c.from_residual.result c.from_residual.ensures.1 in
    rw (p.1, p.2)
    (unchecked _ _ (zeros _ (grind (arith, common_steps))) (zeros _ (grind (arith, common_steps)))
    (verdict_in c.priced.ensures c.in_err-priced.was))

pub returns : goal.returns
returns c = as_lent (search rules) (search rules) c.list.ensures
