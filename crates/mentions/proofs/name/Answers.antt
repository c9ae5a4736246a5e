-- `mentions::name` meets its contract: a terminal has no row.
use native.Mathlib.Omega.{arith}
use Rattle.mentions.specs.Putting.{named_none, named_one}
use Rattle.mentions.proofs.name.Goals as goal

pub returns-then-x-lt64 : goal.returns-then-x-lt64
returns-then-x-lt64 c = named_none c.if-x-lt64.true

pub put-requires : goal.put-requires
put-requires c = record {
  has_word = c.requires.has_word;
  r_bound = omega (arith, c.requires.x_bound);
}

pub returns : goal.returns
returns c = named_one (omega (arith, c.if-x-lt64.false)) (rw c.from.ensures at c.put.ensures) c.with.ensures
