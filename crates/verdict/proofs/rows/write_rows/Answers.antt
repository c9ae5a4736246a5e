-- `verdict::rows::write_rows` meets its contract: the rules in front of p have their rows, links and right sides (`Filling`).
use native.Mathlib.Omega.{arith}
use Rattle.std.proofs.Common.{rules}
use Prim.Native.Nat.{◌<◌}
use Rattle.grammar.specs.Words.{rule_count}
use Rattle.shape.specs.Accessors.{LeftOf}
use Rattle.verdict.specs.Filling.{filling_stays, filling_goes, filling_ends}
use Rattle.verdict.proofs.rows.write_rows.Goals as goal
use Rattle.verdict.proofs.rows.write_rows.Goals.{then-begins-gt0, else-begins-gt0}

pub loop-p-init : goal.loop-p-init
loop-p-init c = c.requires

pub loop-p-preserved : goal.loop-p-preserved
loop-p-preserved c =
    let here : c.loop-p.p < rule_count c.args.rules.now = omega (arith, c.rule_count-p-end.ensures.value) in
    let left : LeftOf c.args.rules.now c.loop-p.p c.from-left.result = rw c.from-left.ensures c.left_of.ensures.left in
    let row = rw c.right_side.ensures.right.is at c.write_row.ensures in
    elim c.if-begins-gt0.branch [
      | then-begins-gt0 w ↦
          filling_goes c.left_of.ensures.shaped c.loop-p.invariant here left row w.if-begins-gt0.true (search rules) w.rows-is
      | else-begins-gt0 w ↦ filling_stays c.left_of.ensures.shaped c.loop-p.invariant here left row w.if-begins-gt0.false w.rows-is
    ]

pub returns : goal.returns
returns c = filling_ends c.rule_count-p-end.ensures.shaped c.loop-p.invariant (omega (arith, c.rule_count-p-end.ensures.value))
