-- `strings::gather` meets its contract: k entries are taken from the parser's tables. The measure is what is left.
use Rattle.strings.specs.Gathering.{rule_small}
use mathlib.Core.Path.{refl}
use native.Mathlib.Omega.{arith}
use Rattle.strings.proofs.Filling.{gather_begins, gather_goes, gather_ends}
use native.Mathlib.Omega.{arith}
use mathlib.Core.Path.{refl}
use Rattle.strings.proofs.gather.Goals as goal

pub nonterminal_count-count-requires : goal.nonterminal_count-count-requires
nonterminal_count-count-requires c = c.requires.shaped

pub loop-k-init : goal.loop-k-init
loop-k-init c = (omega arith, gather_begins)

pub overflow_add-table : goal.overflow_add-table
overflow_add-table c = omega (arith, c.loop-k.invariant.0, c.requires.shaped.nonterminals_high, c.nonterminal_count-count.ensures)

pub offset_bounds-prices-k : goal.offset_bounds-prices-k
offset_bounds-prices-k c = omega (arith, c.loop-k.invariant.0, c.requires.shaped.nonterminals_high, c.nonterminal_count-count.ensures)

pub bounds-prices-k : goal.bounds-prices-k
bounds-prices-k c = omega (arith, c.requires.cheap.prices_size, c.requires.shaped.nonterminals_high, c.nonterminal_count-count.ensures)

pub overflow_cast-table : goal.overflow_cast-table
overflow_cast-table c =
    omega (
      arith,
      rule_small _ _ _ c.requires.cheap c.loop-k.k (omega (
        arith,
        c.loop-k-test.true,
        c.nonterminal_count-count.ensures,
      )),
    )

pub overflow_add-table-in-loop-k : goal.overflow_add-table-in-loop-k
overflow_add-table-in-loop-k c =
    omega (
      arith,
      rule_small _ _ _ c.requires.cheap c.loop-k.k (omega (
        arith,
        c.loop-k-test.true,
        c.nonterminal_count-count.ensures,
      )),
    )

pub offset_bounds-sides-prices : goal.offset_bounds-sides-prices
offset_bounds-sides-prices c =
    omega (
      arith,
      rule_small _ _ _ c.requires.cheap c.loop-k.k (omega (
        arith,
        c.loop-k-test.true,
        c.nonterminal_count-count.ensures,
      )),
    )

pub bounds-sides-prices : goal.bounds-sides-prices
bounds-sides-prices c =
    omega (
      arith,
      rule_small _ _ _ c.requires.cheap c.loop-k.k (omega (
        arith,
        c.loop-k-test.true,
        c.nonterminal_count-count.ensures,
      )),
      c.requires.cheap.sides_size,
    )

pub offset_bounds-table-k : goal.offset_bounds-table-k
offset_bounds-table-k c = omega (arith, c.loop-k.invariant.0, c.requires.shaped.nonterminals_high, c.nonterminal_count-count.ensures)

pub bounds-table-k : goal.bounds-table-k
bounds-table-k c = omega (arith, c.loop-k.invariant.1.size, c.requires.size, c.requires.shaped.nonterminals_high, c.nonterminal_count-count.ensures)

pub loop-k-preserved : goal.loop-k-preserved
loop-k-preserved c = (
  omega (arith, c.loop-k-test.true),
  gather_goes (omega (arith, c.loop-k.invariant.1.size, c.requires.size, c.requires.shaped.nonterminals_high, c.nonterminal_count-count.ensures))
      c.loop-k.invariant.1 refl,
)

pub shape_of-table : goal.shape_of-table
shape_of-table c = c.loop-k.invariant.1.size

pub returns : goal.returns
returns c =
    gather_ends (omega (arith, c.loop-k.invariant.0, c.loop-k-test.false, c.nonterminal_count-count.ensures))
    c.loop-k.invariant.1
