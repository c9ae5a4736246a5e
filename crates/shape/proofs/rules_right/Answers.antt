-- `shape::rules_right` meets its contract: the rules in front of p are right, and their places stand in
-- the table. The measure is what is left of P.
use native.Mathlib.Omega.{arith}
use mathlib.Core.Path.{refl, ◌∙◌}
use lib.ListN.{length-set}
use Rattle.shape.proofs.Judging.{header_some, size_small}
use Rattle.shape.proofs.Placing.{begun, more, over, refused, fits_word}
use Rattle.shape.proofs.rules_right.Goals as goal

pub bounds-words-2 : goal.bounds-words-2
bounds-words-2 c = omega (arith, header_some _ c.requires.header_right)

pub bounds-words-1 : goal.bounds-words-1
bounds-words-1 c = omega (arith, header_some _ c.requires.header_right)

pub terminals-t-requires : goal.terminals-t-requires
terminals-t-requires c = omega (arith, header_some _ c.requires.header_right)

pub header_size-requires : goal.header_size-requires
header_size-requires c = omega (arith, header_some _ c.requires.header_right)

pub overflow_add-at : goal.overflow_add-at
overflow_add-at c = omega (arith, size_small c.args.words.now c.header_size.ensures, c.from.ensures)

pub loop-p-init : goal.loop-p-init
loop-p-init c =
    let count = c.from.ensures ∙ c.terminals-t.ensures in
    (begun _ c.requires.header_right _ _ _ c.header_size.ensures count c.requires.in_bounds, refl)

pub rule_right-requires : goal.rule_right-requires
rule_right-requires c = c.loop-p.invariant.0.inside

pub returns-then-not-rule_right : goal.returns-then-not-rule_right
returns-then-not-rule_right c =
    refused _ c.requires.header_right _ _ _ c.loop-p.invariant.0 (omega (arith, c.from-count.ensures, c.loop-p-test.true))
    c.terminals-t.ensures (c.rule_right.ensures.no c.if-not-rule_right.true)

pub overflow_cast-places : goal.overflow_cast-places
overflow_cast-places c = omega (arith, fits_word _ c.requires.header_right _ _ _ c.loop-p.invariant.0 (omega (arith, c.loop-p-test.true)))

pub bounds-words-at : goal.bounds-words-at
bounds-words-at c = omega (arith, (c.rule_right.ensures.yes c.if-not-rule_right.false).inside)

pub loop-p-preserved : goal.loop-p-preserved
loop-p-preserved c = (
  more _ c.requires.header_right _ _ _ c.loop-p.invariant.0 _ c.from-in-loop-p.ensures (omega (arith, c.loop-p-test.true))
      c.terminals-t.ensures (c.rule_right.ensures.yes c.if-not-rule_right.false),
  omega (arith, length-set c.loop-p.places c.loop-p.p c.loop-p.at, c.loop-p.invariant.1),
)

pub returns : goal.returns
returns c = over _ c.requires.header_right _ _ _ c.loop-p.invariant.0 (omega (arith, c.from-count.ensures, c.loop-p-test.false))
