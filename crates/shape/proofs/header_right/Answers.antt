-- `shape::header_right` meets its contract: fewer words have no room for END's two.
use Rattle.std.proofs.Common.{arith}
use Rattle.base.specs.Telling.{denied}
use Rattle.grammar.proofs.Theory.Headers.{size_least}
use Rattle.shape.proofs.header_right.Goals as goal

pub returns-then-words-lt-LEAST : goal.returns-then-words-lt-LEAST
returns-then-words-lt-LEAST c = denied (λ h. omega (arith, h.end.inside, h.terminals.from, size_least c.args.words.now))
