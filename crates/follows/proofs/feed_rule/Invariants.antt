use Rattle.std.proofs.Common.{◌-◌, length, drop}
use Rattle.grammar.specs.Words.{right_side}
use Rattle.follows.specs.Feeding.{Feeding}
use Rattle.follows.specs.Lasts.{Lasting}
use Rattle.follows.proofs.feed_rule.Given as goal

abbrev pub invariant-loop-x : goal.invariant-loop-x
invariant-loop-x l =
    Feeding l.masks.ws l.masks.null l.masks.firsts l.p (length (right_side l.masks.ws l.p) - length l.yielded) l.behind l.initial.out l.out
    × Lasting l.masks.null (drop (length (right_side l.masks.ws l.p) - length l.yielded) (right_side l.masks.ws l.p)) l.last l.ends
