-- `shape::restart_word` meets its contract: word 0 alone tells whether there is one.
use mathlib.Core.Path.{sym}
use Rattle.grammar.proofs.Theory.Headers.{long_restart, short_restart}
use Rattle.shape.proofs.restart_word.Goals as goal

pub returns-then-words-gt-LONG : goal.returns-then-words-gt-LONG
returns-then-words-gt-LONG c = sym (long_restart _ c.if-words-gt-LONG.true)

pub returns-else-words-gt-LONG : goal.returns-else-words-gt-LONG
returns-else-words-gt-LONG c = sym (short_restart _ c.if-words-gt-LONG.false)
