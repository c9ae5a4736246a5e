-- `shape::terminals` meets its contract: word 0 alone tells.
use mathlib.Core.Path.{sym}
use Rattle.grammar.proofs.Theory.Headers.{long_terminals, short_terminals}
use Rattle.shape.proofs.terminals.Goals as goal

pub returns-then-word-gt-LONG : goal.returns-then-word-gt-LONG
returns-then-word-gt-LONG c = sym (long_terminals _ c.if-word-gt-LONG.true)

pub returns-else-word-gt-LONG : goal.returns-else-word-gt-LONG
returns-else-word-gt-LONG c = sym (short_terminals _ c.if-word-gt-LONG.false)
