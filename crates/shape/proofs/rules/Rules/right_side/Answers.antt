-- `Rules::right_side` meets its contract: a rule lies inside the list.
use Rattle.std.proofs.Common.{arith, sym, subst, ◌∙◌, ◌<◌, ◌+◌, ◌≤◌, length}
use Rattle.grammar.specs.Words.{rule_count}
use Rattle.shape.specs.Inside.{place_inside}
use Rattle.shape.proofs.Reading.{right_part, right_there, size_word}
use Rattle.shape.proofs.rules.Rules.right_side.Goals as goal

pub bounds-self-inside-at : goal.bounds-self-inside-at
bounds-self-inside-at c =
    let below = subst (λ ws. c.args.p < rule_count ws) (sym c.self.view_is) c.requires in
    omega (arith, c.from-at.ensures ∙ c.self.invariant.exact _ below, place_inside _ c.self.invariant.shaped _ below)

pub slice_bounds-result-end : goal.slice_bounds-result-end
slice_bounds-result-end c =
    let below = subst (λ ws. c.args.p < rule_count ws) (sym c.self.view_is) c.requires in
    let place = c.from-at.ensures ∙ c.self.invariant.exact _ below in
    let h : c.from-at.result + 2 + c.from-size.result ≤ length c.self.inside.words.now =
    omega (arith, place, c.from-size.ensures ∙ size_word _ _ place, place_inside _ c.self.invariant.shaped _ below) in
    h

pub returns-clause-right : goal.returns-clause-right
returns-clause-right c =
    let ws = c.self.inside.words.now in
    let below = subst (λ ws. c.args.p < rule_count ws) (sym c.self.view_is) c.requires in
    let place = c.from-at.ensures ∙ c.self.invariant.exact _ below in
    rw (← c.self.view_is)
    (right_there ws c.self.invariant.shaped c.args.p below _ (right_part ws c.args.p place c.from-size.ensures))
