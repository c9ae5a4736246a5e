use Prim.Native.Nat.{◌+◌, ◌-◌}
use lib.ListN.{length}
use Rattle.grammar.specs.Theory.Tables.{sized_of}
use Rattle.correction.specs.Deleting.{Deleted}
use Rattle.correction.proofs.correct.Given as goal

abbrev pub invariant-loop-i : goal.invariant-loop-i
invariant-loop-i l = Deleted (sized_of l.words) l.log l.stack l.initial.edits l.initial.q l.q l.edits

abbrev pub decreases-loop-i : goal.decreases-loop-i
decreases-loop-i l = length l.log + 1 - l.q.place
