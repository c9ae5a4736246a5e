-- `moves::begins` meets its contract: by the two cases of `begins_by`.
use borrow.Author.Tests.{lt-ltb, le-ltb}
use Rattle.moves.specs.Tests.{begins_by}
use Rattle.moves.proofs.begins.Goals as goal

pub returns-then-symbol-lt64 : goal.returns-then-symbol-lt64
unfolding begins_by
returns-then-symbol-lt64 c = rw (lt-ltb _ _ c.if-symbol-lt64.true)

pub returns-else-symbol-lt64 : goal.returns-else-symbol-lt64
unfolding begins_by
returns-else-symbol-lt64 c = rw (le-ltb _ _ c.if-symbol-lt64.false, c.has.ensures, c.from.ensures)
