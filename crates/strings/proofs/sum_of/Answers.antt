-- `strings::sum_of` meets its contract: the sum so far and that over what is left of the right side make the whole. The measure is the word.
use Rattle.strings.proofs.Filling.{sum_begins, sum_inside, sum_small, sum_goes, sum_ends}
use native.Mathlib.Omega.{arith}
use Rattle.strings.proofs.Filling.{sum_begins, sum_goes}
use native.Mathlib.Omega.{arith}
use Rattle.strings.proofs.sum_of.Goals as goal

pub loop-left-init : goal.loop-left-init
loop-left-init c = sum_begins c.requires

pub length_of-sum-requires : goal.length_of-sum-requires
length_of-sum-requires c = record {
  lengths_len = c.requires.size;
  symbol_bound = sum_inside c.loop-left.invariant c.loop-left-test.true;
}

pub overflow_add-sum : goal.overflow_add-sum
overflow_add-sum c = omega (arith, sum_small c.loop-left.invariant c.loop-left-test.true c.requires, c.length_of-sum.ensures)

pub loop-left-smaller : goal.loop-left-smaller
loop-left-smaller c = omega (arith, c.loop-left-test.true)

pub loop-left-preserved : goal.loop-left-preserved
loop-left-preserved c = sum_goes c.loop-left.invariant c.loop-left-test.true c.length_of-sum.ensures

pub returns : goal.returns
returns c = sum_ends c.loop-left.invariant (omega (arith, c.loop-left-test.false))
