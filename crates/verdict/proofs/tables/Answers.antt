-- `verdict::tables` meets its contract: the answer, and the tables where it accepts.
use native.Mathlib.Omega.{arith}
use Rattle.std.proofs.lemmas.Result.{err_from_is_err_and}
use Rattle.base.specs.Blank.{blank_part}
use Rattle.verdict.specs.Answer.{accepting, refusing, verdict_in, rules_are, no_rules, shared}
use Rattle.verdict.proofs.tables.Goals as goal

pub judge-requires : goal.judge-requires
judge-requires c = record {
  blank = blank_part 0 192 c.requires.prices_blank (omega arith);
  blank_2 = c.requires.sets_blank;
}

pub fill-requires : goal.fill-requires
fill-requires c = record {
  shaped = (c.judge.ensures.known c.in_ok-judge.was).shaped;
  sets_of = (c.judge.ensures.known c.in_ok-judge.was).exact;
  sides_len = c.requires.sides_size;
  rows_len = c.requires.rows_size;
}

pub returns : goal.returns
returns c =
    let known = c.judge.ensures.known c.in_ok-judge.was in
    rw (← (rules_are _ _ c.new.ensures.words c.ok_or.ensures.ok_part c.in_ok-rules.was))
    (accepting (verdict_in c.judge.ensures c.in_ok-judge.was) (record {
      shared = shared c.args.prices.now _ known c.requires.prices_blank.size c.limits.ensures;
      pushes = c.fill.ensures;
    }))

pub returns-in_err-judge : goal.returns-in_err-judge
returns-in_err-judge c =
    let p = err_from_is_err_and c.from_residual-in_err-judge.result c.from_residual-in_err-judge.ensures.1 in
    rw (← (rules_are _ _ c.new.ensures.words c.ok_or.ensures.ok_part c.in_ok-rules.was), p.1, p.2)
    (refusing (verdict_in c.judge.ensures c.in_err-judge.was))

pub returns-in_err-rules : goal.returns-in_err-rules
returns-in_err-rules c =
    let p = err_from_is_err_and c.from_residual.result c.from_residual.ensures.1 in
    rw p.1 (no_rules _ _ c.new.ensures.some c.ok_or.ensures.value c.in_err-rules.was p.2)
