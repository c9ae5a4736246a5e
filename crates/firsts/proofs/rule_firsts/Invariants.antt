use Rattle.std.proofs.Common.{ℕ, ◌<◌, ◌≡◌, length, get_or}
use Rattle.grammar.specs.Grammar.{RuleOf}
use Rattle.grammar.specs.Theory.Masks.{FirstMask}
use Rattle.grammar.specs.Words.{right_side}
use Rattle.firsts.proofs.rule_firsts.Given as goal

abbrev pub invariant-loop-p : goal.invariant-loop-p
invariant-loop-p l =
    (length l.out ≡ length l.initial.out)
    × ((q : ℕ) → q < l.p → FirstMask (RuleOf l.masks.ws) (right_side l.masks.ws q) (get_or l.out q 0))
