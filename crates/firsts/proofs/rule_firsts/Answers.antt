-- `firsts::rule_firsts` meets its contract: the sets in front of p are exact.
use Rattle.std.proofs.Common.{ap, arith, length-set}
use Rattle.grammar.specs.Grammar.{RuleOf}
use Rattle.grammar.specs.Theory.Masks.{FirstMask}
use Rattle.grammar.specs.Words.{right_side, rule_count}
use Rattle.growth.specs.Sums.{filled_more}
use Rattle.firsts.specs.Firsts.{right_first}
use Rattle.firsts.proofs.rule_firsts.Goals as goal

pub loop-p-preserved : goal.loop-p-preserved
loop-p-preserved c = (
  simp length-set c.loop-p.invariant.0,
  filled_more (λ q m. FirstMask (RuleOf c.args.masks.now.ws) (right_side c.args.masks.now.ws q) m)
      c.loop-p.out c.loop-p.p _ (omega arith) c.loop-p.invariant.1
      (right_first _ c.rules.ensures.exact.asked.shaped _ c.rules.ensures.exact.asked.nulls c.rules.ensures.exact.exact c.loop-p.p
      (omega (arith, ap rule_count c.rules.ensures.rules)) c.first_with.ensures),
)
