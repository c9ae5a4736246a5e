-- `follows::feed_rule` meets its contract: a walk from the end that feeds each nonterminal (`Feeding`) and notes those that can stand last
-- (`Lasting`).
use Rattle.std.proofs.Common.{◌≡◌, ◌-◌, length, drop, subst, arith}
use Rattle.std.proofs.lemmas.Iterator.Adapters.{YieldsList-from_rev_slice}
use Rattle.std.proofs.lemmas.Iterator.Consumers.{YieldsList-turn, YieldsList-end}
use Rattle.std.proofs.lemmas.List.{length-reverse, length_push}
use Rattle.grammar.specs.Words.{right_side}
use Rattle.firsts.specs.Walk.{at_back}
use Rattle.follows.specs.Feeding.{Feeding, feeding_begins, feeding_goes, feeding_ends}
use Rattle.follows.specs.Lasts.{Lasting, lasting_begins, lasting_goes, lasting_ends}
use Rattle.follows.proofs.feed_rule.Goals as goal

pub loop-x-init : goal.loop-x-init
loop-x-init c =
    let all : length (right_side c.args.masks.now.ws c.args.p) - 0 ≡ length (right_side c.args.masks.now.ws c.args.p) = omega arith in
    (feeding_begins all c.requires.sound_follows, lasting_begins _ all)

pub loop-x-preserved : goal.loop-x-preserved
loop-x-preserved c =
    let α = right_side c.args.masks.now.ws c.args.p in
    let turn = YieldsList-turn (YieldsList-from_rev_slice α (cc)) c.loop-x.yielded _ c.loop-x.yielded_by _ _ c.in-Some.field-0 c.in-Some.is
    c.next.ensures.steps in
    let at = at_back α (length c.loop-x.yielded) _ c.in-Some.field-0.now (length_push c.loop-x.yielded c.in-Some.field-0) turn in
    let here : length α - length c.loop-x.yielded ≡ _ = omega (arith, turn.0, length-reverse α, length_push c.loop-x.yielded c.in-Some.field-0) in (
      feeding_goes c.rules.ensures.exact.asked c.rules.ensures.exact.exact c.requires.reached c.requires.p_bound
          (subst (λ i. Feeding c.args.masks.now.ws c.args.masks.now.null c.args.masks.now.firsts c.args.p i c.loop-x.behind c.args.out.now c.loop-x.out) here c.loop-x.invariant.0)
          at c.add_behind.ensures c.pass-behind.ensures,
      lasting_goes (subst (λ i. Lasting c.args.masks.now.null (drop i α) c.loop-x.last c.loop-x.ends) here c.loop-x.invariant.1) at c.last_with-last.ensures
          c.empty_from-ends.ensures,
    )

pub returns : goal.returns
returns c =
    let α = right_side c.args.masks.now.ws c.args.p in
    let end = YieldsList-end (YieldsList-from_rev_slice α (cc)) c.loop-x.yielded _ c.loop-x.yielded_by _ _ c.in-None.is c.next.ensures.steps in
    let over : length α - length c.loop-x.yielded ≡ 0 = omega (arith, end.1, length-reverse α) in
    record { tailed = feeding_ends c.loop-x.invariant.0 over; lasts = lasting_ends _ c.loop-x.invariant.1 over }
