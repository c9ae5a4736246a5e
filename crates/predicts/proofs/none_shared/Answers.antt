-- `predicts::none_shared` meets its contract: the rules in front of p share no token (`Seen`).
use Rattle.std.proofs.Common.{◌<◌, ap, ◌∙◌, arith}
use Rattle.base.specs.Telling.{told, denied}
use Rattle.grammar.specs.Words.{rule_count}
use Rattle.predicts.specs.Seen.{seen_begins, seen_goes, seen_fails, seen_ends}
use Rattle.predicts.proofs.none_shared.Goals as goal

pub loop-p-init : goal.loop-p-init
loop-p-init c = (c.requires.blank.size, seen_begins c.requires.blank)

pub returns-then-shared : goal.returns-then-shared
returns-then-shared c =
    let counted : c.loop-p.p < rule_count c.args.masks.now.ws = omega (arith, ap rule_count c.rules-rules.ensures.rules) in
    let left = rw (c.rules-rules.ensures.rules, ← c.from-k.ensures) at c.left_of.ensures.left in
    denied (seen_fails c.loop-p.invariant.1 counted left c.predict-mask.ensures (c.shared.ensures.yes c.if-shared.true))

pub loop-p-preserved : goal.loop-p-preserved
loop-p-preserved c =
    let counted : c.loop-p.p < rule_count c.args.masks.now.ws = omega (arith, ap rule_count c.rules-rules.ensures.rules) in
    let left = rw (c.rules-rules.ensures.rules, ← c.from-k.ensures) at c.left_of.ensures.left in (
      c.add_to.ensures.same ∙ c.loop-p.invariant.0,
      seen_goes c.loop-p.invariant.1 counted left c.predict-mask.ensures (c.shared.ensures.no c.if-shared.false) c.add_to.ensures,
    )

pub returns : goal.returns
returns c = told (seen_ends c.loop-p.invariant.1 (omega (arith, ap rule_count c.rules-rules.ensures.rules)))
