-- `Rules::left_of` meets its contract: by the first word of the rule.
use Rattle.std.proofs.Common.{arith, sym, ap, subst, ◌∙◌, ◌<◌, ◌+◌, ◌≡◌}
use Rattle.grammar.specs.Words.{rule_count, rule_place, word}
use Rattle.shape.specs.Inside.{place_inside}
use Rattle.shape.proofs.Reading.{left_at}
use Rattle.shape.proofs.rules.Rules.left_of.Goals as goal

pub bounds-self-inside-from : goal.bounds-self-inside-from
bounds-self-inside-from c =
    let below = subst (λ ws. c.args.p < rule_count ws) (sym c.self.view_is) c.requires in
    omega (arith, c.from.ensures ∙ c.self.invariant.exact _ below, place_inside _ c.self.invariant.shaped _ below)

pub returns-clause-left : goal.returns-clause-left
returns-clause-left c =
    let below = subst (λ ws. c.args.p < rule_count ws) (sym c.self.view_is) c.requires in
    let place : c.from.result ≡ rule_place c.self.inside.words.now c.args.p + 0 =
    omega (arith, c.from.ensures ∙ c.self.invariant.exact _ below) in
    rw (← c.self.view_is)
    (left_at _ c.self.invariant.shaped c.args.p below _ (ap (word c.self.inside.words.now) place))
