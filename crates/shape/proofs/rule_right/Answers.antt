-- `shape::rule_right` meets its contract: each exit by its field of `RuleRight`.
use Rattle.std.proofs.Common.{arith, ◌+◌}
use Rattle.shape.proofs.Placing.{rule_tells, symbols_there}
use Rattle.shape.proofs.rule_right.Goals as goal

pub returns : goal.returns
returns c =
    rule_tells _ _ _ _ _ c.from-size.ensures c.if-n-words.false c.if-size-gt8.false (omega arith)
    (symbols_there c.args.words.now (c.args.at + 2) c.from-size.result (omega arith) c.symbols_right.ensures)
