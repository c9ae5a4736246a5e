-- `marks::copy`: the first i words are written.
use Rattle.std.specs.Prelude.{◌≡◌, take}
use Rattle.base.specs.Written.{written}
use Rattle.marks.proofs.copy.Given as goal

abbrev pub invariant-loop-i : goal.invariant-loop-i
invariant-loop-i l = l.tokens ≡ written l.initial.tokens l.at (take l.i l.part)
