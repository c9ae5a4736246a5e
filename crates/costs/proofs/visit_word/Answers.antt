-- `costs::visit_word` meets its contract: the rules of the word but the rest are visited. The measure is the rest.
use native.Mathlib.Omega.{arith}
use mathlib.Core.Path.{sym, ◌∙◌}
use Rattle.sets.specs.Taking.{without_less}
use Rattle.costs.specs.Visiting.{word_begins, word_goes, word_ends}
use Rattle.costs.proofs.visit_word.Goals as goal

pub loop-rest-init : goal.loop-rest-init
loop-rest-init c = word_begins c.requires.held

pub least-i-requires : goal.least-i-requires
least-i-requires c = c.loop-rest-test.true

pub overflow_mul-w : goal.overflow_mul-w
overflow_mul-w c =
    let rule = c.requires.rules_of c.least-i.result c.least-i.ensures.below
    (c.loop-rest.invariant.within c.least-i.result c.least-i.ensures.held) in omega (arith, c.requires.shaped.rules_high)

pub overflow_add-w : goal.overflow_add-w
overflow_add-w c =
    let rule = c.requires.rules_of c.least-i.result c.least-i.ensures.below
    (c.loop-rest.invariant.within c.least-i.result c.least-i.ensures.held) in omega (arith, c.from.ensures, c.requires.shaped.rules_high)

pub visit-more-requires : goal.visit-more-requires
visit-more-requires c = record {
  p_bound = rw c.from.ensures (c.requires.rules_of c.least-i.result c.least-i.ensures.below
      (c.loop-rest.invariant.within c.least-i.result c.least-i.ensures.held));
  held = c.loop-rest.invariant.revised.held;
}

pub without-rest-requires : goal.without-rest-requires
without-rest-requires c = record {
  i_bound = c.least-i.ensures.below;
  i_value = c.least-i.ensures.held;
}

pub loop-rest-smaller : goal.loop-rest-smaller
loop-rest-smaller c = omega (arith, without_less _ _ c.least-i.ensures.held, c.without-rest.ensures)

pub loop-rest-preserved : goal.loop-rest-preserved
loop-rest-preserved c = rw c.without-rest.ensures (rw c.union-fallen.ensures (word_goes c.loop-rest.invariant c.least-i.ensures (rw c.from.ensures at c.visit-more.ensures)))

pub shape_of-table : goal.shape_of-table
shape_of-table c = c.loop-rest.invariant.revised.held.size ∙ sym c.requires.held.size

pub returns : goal.returns
returns c = word_ends c.loop-rest.invariant (omega (arith, c.loop-rest-test.false))
