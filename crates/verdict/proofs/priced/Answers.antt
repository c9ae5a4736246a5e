-- `verdict::priced` meets its contract: the shape first, then the table as `judge` leaves it.
use Rattle.std.proofs.lemmas.Result.{err_from_is_err_and}
use Rattle.base.specs.Blank.{blank_made}
use Rattle.verdict.specs.Answer.{judged_priced, rules_are, no_rules}
use Rattle.verdict.proofs.priced.Goals as goal

pub judge-requires : goal.judge-requires
judge-requires c = record {
  blank = c.requires;
  blank_2 = blank_made 65;
}

pub returns : goal.returns
returns c =
    rw (← (rules_are _ _ c.new.ensures.words c.ok_or.ensures.ok_part c.in_ok-rules.was)) (judged_priced c.judge.ensures)

pub returns-in_err-rules : goal.returns-in_err-rules
returns-in_err-rules c =
    let p = err_from_is_err_and c.from_residual.result c.from_residual.ensures.1 in
    rw p.1 (no_rules _ _ c.new.ensures.some c.ok_or.ensures.value c.in_err-rules.was p.2)
