use Rattle.strings.specs.Lengths.{Measured}
use lib.ListN.{length}
use Prim.Native.Nat.{◌≤◌}
use mathlib.Core.Path.{◌≡◌}
use Rattle.strings.proofs.lengths.Given as goal

abbrev pub invariant-loop-d : goal.invariant-loop-d
invariant-loop-d l = (l._d ≤ l.depth) × Measured l.table l._d l.lengths × (length l.next ≡ 64)
