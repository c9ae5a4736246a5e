use Rattle.std.proofs.Common.{drop}
use Rattle.firsts.specs.Leading.{Leading}
use Rattle.firsts.proofs.lead.Given as goal

abbrev pub invariant-loop-x : goal.invariant-loop-x
invariant-loop-x l = Leading l.rules l.null l.p l.k (drop l.x-index l.right) l.initial.feeds l.initial.out l.feeds l.out l.list
