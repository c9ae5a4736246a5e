use Rattle.std.proofs.Common.{◌≡◌, length}
use Rattle.predicts.specs.Seen.{Seen}
use Rattle.predicts.proofs.none_shared.Given as goal

abbrev pub invariant-loop-p : goal.invariant-loop-p
invariant-loop-p l = (length l.seen ≡ 64) × Seen l.masks.ws l.p l.seen
