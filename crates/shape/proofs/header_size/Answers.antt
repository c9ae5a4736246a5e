-- `shape::header_size` meets its contract: word 0 alone tells.
use mathlib.Core.Path.{sym}
use Rattle.grammar.proofs.Theory.Headers.{long_size, short_size}
use Rattle.shape.proofs.header_size.Goals as goal

pub returns-then-words-gt-LONG : goal.returns-then-words-gt-LONG
returns-then-words-gt-LONG c = sym (long_size _ c.if-words-gt-LONG.true)

pub returns-else-words-gt-LONG : goal.returns-else-words-gt-LONG
returns-else-words-gt-LONG c = sym (short_size _ c.if-words-gt-LONG.false)
