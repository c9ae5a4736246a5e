-- `block::weighted_sum` meets its contract: the sum over the first i bytes, at most 510 * 255 for each of them.
use Prim.Native.Nat.{◌+◌}
use native.Mathlib.Omega.{arith}
use mathlib.Core.Path.{◌≡◌, sym}
use Rattle.grammar.specs.Theory.Files.{sum_none, sum_more}
use Rattle.block.proofs.weighted_sum.Goals as goal

pub loop-i-init : goal.loop-i-init
loop-i-init c = (sym (sum_none _ _), omega arith)

pub loop-i-preserved : goal.loop-i-preserved
loop-i-preserved c =
    let here : 0 + c.loop-i.i ≡ c.loop-i.i = omega arith in
    let more = rw here at (sum_more c.args.bytes.now 0 c.loop-i.i) in
    (omega (arith, more, c.weighted-sum.ensures.value), omega arith)
