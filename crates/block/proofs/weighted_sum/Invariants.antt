use Prim.Native.Nat.{◌*◌, ◌≤◌}
use mathlib.Core.Path.{◌≡◌}
use Rattle.grammar.specs.File.{weighted_sum}
use Rattle.block.proofs.weighted_sum.Given as goal

abbrev pub invariant-loop-i : goal.invariant-loop-i
invariant-loop-i l = (l.sum ≡ weighted_sum l.bytes 0 l.i) × (l.sum ≤ 130050 * l.i)
