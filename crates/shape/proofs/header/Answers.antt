-- `shape::header` meets its contract: the header lies inside the list.
use native.Mathlib.Omega.{arith}
use Rattle.shape.proofs.Reading.{front_inside, header_at}
use Rattle.shape.proofs.header.Goals as goal

pub bounds-words-i : goal.bounds-words-i
bounds-words-i c = omega (arith, front_inside _ c.requires.shaped)

pub returns : goal.returns
returns c = header_at c.args.words.now _ c.requires.i_bound
