-- `exports::fit` meets its contract: value by value, as far as they fit, and blank cells behind them.
use Rattle.std.proofs.Common.{arith, ◌∙◌}
use Rattle.exports.specs.Fitting.{over_more, over_full, over_ends}
use Rattle.exports.proofs.fit.Goals as goal
use Rattle.exports.proofs.fit.Goals.{then-i-cells, else-i-cells}

pub loop-i-preserved : goal.loop-i-preserved
loop-i-preserved g c =
    elim c.if-i-cells.branch [
      | then-i-cells w ↦
          w.cells-is
          ∙ over_more c.args.blank _ _ c.loop-i.i c.loop-i-test.true (omega (arith, w.if-i-cells.true, c.loop-i.auto.cells))
          c.index-values-i.is c.loop-i.invariant
      | else-i-cells w ↦
          w.cells-is
          ∙ over_full c.args.blank _ _ c.loop-i.i (omega (arith, w.if-i-cells.false, c.loop-i.auto.cells)) c.loop-i.invariant
    ]

pub returns : goal.returns
returns g c =
    over_ends c.args.blank _ _ c.loop-i.i (omega (arith, c.loop-i.auto.i-end, c.loop-i-test.false)) c.loop-i.invariant
    c.fill_from.ensures
