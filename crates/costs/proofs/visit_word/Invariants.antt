use Rattle.costs.specs.Visiting.{Wording}
use Rattle.costs.proofs.visit_word.Given as goal

abbrev pub invariant-loop-rest : goal.invariant-loop-rest
invariant-loop-rest l = Wording l.rules l.word l.w l.rest l.initial.table l.table l.fallen

abbrev pub decreases-loop-rest : goal.decreases-loop-rest
decreases-loop-rest l = l.rest
