-- `costs::visit_row` meets its contract: the rules of the first w words are visited.
use native.Mathlib.Omega.{arith}
use mathlib.Core.Path.{refl, sym, ◌∙◌}
use Rattle.costs.specs.Visiting.{row_begins, row_goes, row_ends, row_rules}
use Rattle.costs.proofs.visit_row.Goals as goal

pub loop-w-init : goal.loop-w-init
loop-w-init c = row_begins c.args.mentions.now c.args.row c.requires.held

pub overflow_mul-w : goal.overflow_mul-w
overflow_mul-w c = omega (arith, c.requires.spans.few, c.loop-w-test.true)

pub overflow_add-w : goal.overflow_add-w
overflow_add-w c = omega (arith, c.requires.spans.few, c.requires.row_bound, c.loop-w-test.true)

pub offset_bounds-mentions-w : goal.offset_bounds-mentions-w
offset_bounds-mentions-w c = omega (arith, c.requires.spans.few, c.requires.row_bound, c.loop-w-test.true)

pub bounds-mentions-w : goal.bounds-mentions-w
bounds-mentions-w c = omega (arith, c.requires.spans.few, c.requires.row_bound, c.loop-w-test.true)

pub visit_word-more-requires : goal.visit_word-more-requires
visit_word-more-requires c = record {
  shaped = c.requires.shaped;
  rules_of = row_rules c.loop-w.w c.requires.mentions_of c.requires.row_bound;
  held = c.loop-w.invariant.held;
}

pub loop-w-preserved : goal.loop-w-preserved
loop-w-preserved c =
    rw c.union-fallen.ensures (row_goes c.args.mentions.now c.args.row c.loop-w.invariant refl c.visit_word-more.ensures)

pub shape_of-table : goal.shape_of-table
shape_of-table c = c.loop-w.invariant.held.size ∙ sym c.requires.held.size

pub returns : goal.returns
returns c =
    row_ends c.args.mentions.now c.args.row c.requires.spans c.loop-w.invariant
    (omega (arith, c.loop-w-test.false))
