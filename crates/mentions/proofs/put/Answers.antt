-- `mentions::put` meets its contract: bit p of row r is bit p % 64 of its word p / 64.
use native.Mathlib.Omega.{arith}
use Rattle.mentions.specs.Putting.{put_added}
use Rattle.mentions.proofs.put.Goals as goal

pub overflow_mul-p : goal.overflow_mul-p
overflow_mul-p c = omega (arith, c.requires.has_word)

pub overflow_add-p : goal.overflow_add-p
overflow_add-p c = omega (arith, c.requires.has_word, c.requires.r_bound)

pub add_to-requires : goal.add_to-requires
add_to-requires c = omega (arith, c.requires.has_word, c.requires.r_bound)

pub returns : goal.returns
returns c = put_added c.requires.r_bound c.with.ensures c.add_to.ensures
