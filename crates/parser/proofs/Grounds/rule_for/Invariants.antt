use Rattle.grammar.specs.Theory.Tables.{sized_of}
use Rattle.parser.specs.Lookup.{Linking}
use Rattle.parser.proofs.Grounds.rule_for.Given as goal

abbrev pub invariant-loop-link : goal.invariant-loop-link
invariant-loop-link l = Linking (sized_of l.self.words.now) l.top l.t l.link

abbrev pub decreases-loop-link : goal.decreases-loop-link
decreases-loop-link l = l.link
