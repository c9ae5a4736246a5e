-- `follows::begin` meets its contract: the rules in front of p have fed what they feed (`RulesFed`).
use Rattle.std.proofs.Common.{ap, arith, subst}
use Rattle.grammar.specs.Words.{rule_count}
use Rattle.shape.specs.Accessors.{LeftOf}
use Rattle.follows.specs.Begun.{begin_goes}
use Rattle.follows.proofs.begin.Goals as goal

pub loop-p-preserved : goal.loop-p-preserved
loop-p-preserved c =
    begin_goes c.rules-rules.ensures.exact.asked c.loop-p.invariant (omega (arith, ap rule_count c.rules-rules.ensures.rules)) c.feed_rule-last.ensures
    (subst (λ ws. LeftOf ws c.loop-p.p c.left_of-k.result) c.rules-rules.ensures.rules c.left_of-k.ensures.left)
    (rw c.from.ensures at c.add_to-more.ensures) c.note-list.ensures
