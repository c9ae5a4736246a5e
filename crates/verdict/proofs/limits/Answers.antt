-- `verdict::limits` meets its contract: END and the terminals in front of t have their limits (`Limits`).
use Rattle.std.proofs.Common.{rules, arith}
use Rattle.verdict.specs.Prices.{limits_begin, limits_go, limits_end}
use Rattle.verdict.proofs.limits.Goals as goal

pub loop-t-init : goal.loop-t-init
loop-t-init c = limits_begin c.args.limits.now c.requires

pub loop-t-preserved : goal.loop-t-preserved
loop-t-preserved c =
    limits_go c.loop-t.invariant (omega (arith, c.terminal_count-t-end.ensures.value, c.terminals-terminals.ensures.shaped.terminals_high))
    (search rules)

pub returns : goal.returns
returns c =
    limits_end c.loop-t.invariant c.terminals-terminals.ensures.shaped.terminals_low
    (omega (arith, c.terminal_count-t-end.ensures.value, c.loop-t-test.false))
