use Prim.Native.Nat.{◌-◌}
use Rattle.grammar.specs.Theory.Tables.{sized_of}
use Rattle.moves.specs.Pile.{pile}
use Rattle.correction.specs.Searching.{Walked}
use Rattle.correction.proofs.seek.Given as goal

abbrev pub invariant-loop-k : goal.invariant-loop-k
invariant-loop-k l = Walked (sized_of l.words) l.prices (pile l.stack l.height) l.t (l.height - l.k) l.cost
