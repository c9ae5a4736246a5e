use Prim.Native.Nat.{◌-◌}
use Rattle.grammar.specs.Theory.Tables.{sized_of}
use Rattle.parser.specs.Runs.{Runs}
use Rattle.parser.proofs.Grounds.run.Given as goal

abbrev pub invariant-loop-p : goal.invariant-loop-p
invariant-loop-p l = Runs (sized_of l.self.words.now) l.self.log.now l.initial.stack l.initial.edits l.initial.rules
    l.stack l.edits l.rules l.p

abbrev pub decreases-loop-p : goal.decreases-loop-p
decreases-loop-p l = 2101250 - l.p.moves
