use Rattle.std.proofs.Common.{take}
use Rattle.mentions.specs.Putting.{Mentioned}
use Rattle.mentions.proofs.mention.Given as goal

abbrev pub invariant-loop-x : goal.invariant-loop-x
invariant-loop-x l = Mentioned (take l.x-index l.symbols) l.p l.initial.table l.table l.named
