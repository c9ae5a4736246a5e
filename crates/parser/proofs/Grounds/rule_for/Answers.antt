use native.Mathlib.Omega.{arith}
use mathlib.Core.Path.{ap, ◌∙◌}
use lib.ListN.{get_or}
use Rattle.parser.specs.Lookup.{linking_head, linking_more, link_found, link_some}
use Rattle.parser.proofs.Grounds.rule_for.Goals as goal

pub offset_bounds-rows-from : goal.offset_bounds-rows-from
offset_bounds-rows-from c = omega (arith, c.from.ensures, c.requires.small)

pub bounds-rows-from : goal.bounds-rows-from
bounds-rows-from c = omega (arith, c.from.ensures, c.requires.small, c.requires.pushes.rows_size)

pub loop-link-init : goal.loop-link-init
loop-link-init c = linking_head c.requires _ (c.from-link.ensures ∙ ap (λ k. get_or c.args.self.now.rows.now k 0) c.from.ensures)

pub offset_bounds-sides-p : goal.offset_bounds-sides-p
offset_bounds-sides-p c = omega (arith, c.loop-link.invariant.within, c.requires.pushes.few)

pub bounds-sides-p : goal.bounds-sides-p
bounds-sides-p c = omega (arith, c.loop-link.invariant.within, c.requires.pushes.few, c.requires.pushes.sides_size)

pub has-requires : goal.has-requires
has-requires c = c.requires.token

pub returns-then-has : goal.returns-then-has
returns-then-has c = link_found c.requires _ c.loop-link-test.true c.loop-link.invariant c.has.ensures c.if-has.true

pub overflow_mul-p : goal.overflow_mul-p
overflow_mul-p c = omega (arith, c.loop-link.invariant.within, c.requires.pushes.few)

pub overflow_add-p : goal.overflow_add-p
overflow_add-p c = omega (arith, c.loop-link.invariant.within, c.requires.pushes.few)

pub overflow_add-p-in-loop-link : goal.overflow_add-p-in-loop-link
overflow_add-p-in-loop-link c = omega (arith, c.loop-link.invariant.within, c.requires.pushes.few)

pub offset_bounds-rows-p : goal.offset_bounds-rows-p
offset_bounds-rows-p c = omega (arith, c.loop-link.invariant.within, c.requires.pushes.few)

pub bounds-rows-p : goal.bounds-rows-p
bounds-rows-p c = omega (arith, c.loop-link.invariant.within, c.loop-link-test.true, c.requires.pushes.few, c.requires.pushes.rows_size)

pub loop-link-smaller : goal.loop-link-smaller
loop-link-smaller c = (linking_more c.requires _ _ c.loop-link-test.true c.loop-link.invariant c.has.ensures c.if-has.false c.from-link-in-loop-link.ensures).1

pub loop-link-preserved : goal.loop-link-preserved
loop-link-preserved c = (linking_more c.requires _ _ c.loop-link-test.true c.loop-link.invariant c.has.ensures c.if-has.false c.from-link-in-loop-link.ensures).0

pub returns : goal.returns
returns c = absurd (link_some c.requires _ c.loop-link-test.false c.loop-link.invariant)
